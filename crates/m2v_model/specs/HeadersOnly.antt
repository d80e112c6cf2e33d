-- Reading the headers of a piece alone: its slices stay unread, and a reader of rows reads them later.
use Rattle.std.specs.Prelude.{◌≡◌, ℕ, Bool, true, false, List, [], ◌∷◌, Option, Some, None, Ok, Err}
use Rattle.m2v_model.specs.declared.fault.FaultKind.{FaultKind}
use Rattle.m2v_model.specs.declared.state.State.{State}
use Rattle.m2v_model.specs.Units.{Units, cut}
use Rattle.m2v_model.specs.Streams.{Part, picture, unread_slice, after}
use Rattle.m2v_model.specs.ByPieces.{unit_read}

-- a state from which headers alone are read
abbrev pub without_slices : State → State
without_slices st = record st { headers_only = true }

-- The longest front of units that can be read from a state on, as its parts, and the fault that stands behind it, with
-- how many bits are left there.
pub data FrontRead : State → Units → List Part → Option (FaultKind × ℕ) → Type 0 where
  faulty : {st : State} {us : Units} {f : FaultKind × ℕ} → unit_read st us ≡ Err f → FrontRead st us [] (Some f)
  final_unit : {st : State} {us rest : Units} {p : Part} → unit_read st us ≡ Ok ((false, p), rest) → FrontRead st us (p ∷ []) None
  more : {st : State} {us mid : Units} {p : Part} {ps : List Part} {f : Option (FaultKind × ℕ)} → unit_read st us ≡ Ok ((true, p), mid) → FrontRead (after st p) mid ps f → FrontRead st us (p ∷ ps) f

-- the row of each slice that stays unread, and its unit, which tells its length
unfoldable pub slices_in : List Part → List (ℕ × List ℕ)
slices_in [] = []
slices_in (unread_slice row u ∷ ps) = (row, u) ∷ slices_in ps
slices_in (p ∷ ps) = slices_in ps

-- a picture is among parts: a fault behind them is then the picture's own, and else one of the piece
unfoldable pub has_picture : List Part → Bool
has_picture [] = false
has_picture (picture info extension ∷ ps) = true
has_picture (p ∷ ps) = has_picture ps

-- the headers of a piece, from a state on, as far as they can be read
abbrev pub HeadersRead : State → List ℕ → List Part → Option (FaultKind × ℕ) → Type 0
HeadersRead st piece parts fault = FrontRead (without_slices st) (cut 0 piece).1 parts fault
