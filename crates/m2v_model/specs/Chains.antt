-- Units one behind another, each a part of the stream.
use Rattle.std.specs.Prelude.{ℕ, true, List, [], ◌∷◌, ◌++◌}
use Rattle.m2v_model.specs.declared.state.State.{State}
use Rattle.m2v_model.specs.Units.{Units}
use Rattle.m2v_model.specs.Streams.{Part, Sofar, after, value_of, known_unit}

-- a unit, and perhaps others behind it, are a part of the stream behind a state, and other units may follow
pub record Reads (st : State) (p : Part) (u : List ℕ) (others : Units) : Type 0 where
  pub stands : (start : ℕ) (us : Units) → (known_unit st start (value_of u) u).Stands (true, p) (others ++ us) us

-- units as parts, from one state to another
pub data Chain : State → List Part → Units → State → Type 0 where
  nothing : {st : State} → Chain st [] [] st
  link : {st z : State} {p : Part} {ps : List Part} {u : List ℕ} {others us : Units} → Reads st p u others → Chain (after st p) ps us z → Chain st (p ∷ ps) (u ∷ (others ++ us)) z

-- the parts so far, and the state behind them
abbrev pub sofar : State → List Part → Sofar
sofar st ps = record { state = st; parts = ps }
