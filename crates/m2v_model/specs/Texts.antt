-- Texts that are units one behind another, and in which no prefix of a start code stands.
use Rattle.std.specs.Prelude.{◌≡◌, ℕ, zero, suc, ◌+◌, ◌%◌, ◌≤◌, Bool, true, false, All, List, [], ◌∷◌, ◌++◌, length, replicate}
use Rattle.m2v_bits.specs.Bits.{packed, to_edge}
use Rattle.m2v_model.specs.Units.{joined, Units}

-- Among any 23 bits in a row there is a 1: so many zero bits may still come before a 1, and behind the text still at
-- least m.
abbrev pub Calm : ℕ → List Bool → ℕ → Type 0
Calm k [] m = m ≤ k
Calm k (true ∷ bs) m = Calm 22 bs m
Calm zero (false ∷ bs) m = ⊥
Calm (suc k) (false ∷ bs) m = Calm k bs m

-- what stands behind a start code: a text, and zeros up to the edge of a byte
unfoldable pub ended : List Bool → List Bool
ended t = t ++ replicate (to_edge (32 + length t)) false

-- the bytes of a unit
abbrev pub unit_bytes : ℕ → List Bool → List ℕ
unit_bytes value t = 0 ∷ 0 ∷ 1 ∷ value ∷ packed (ended t)

-- no prefix of a start code stands in the text of a unit
pub record IsCalm (t : List Bool) : Type 0 where
  pub calm : Calm 22 (ended t) 0

-- a unit whose text has no prefix of a start code
pub record IsTidy (u : List ℕ) : Type 0 where
  pub value : ℕ
  pub text : List Bool
  pub is : u ≡ unit_bytes value text
  pub calm : IsCalm text

-- the text ends at the edge of a byte, and its bytes are these units, of each of which something holds
pub record PacksEach (P : List ℕ → Type 0) (text : List Bool) (us : Units) : Type 0 where
  pub edge : length text % 8 ≡ 0
  pub bytes : packed text ≡ joined us
  pub each : All P us

abbrev pub Packs : List Bool → Units → Type 0
Packs = PacksEach IsTidy
