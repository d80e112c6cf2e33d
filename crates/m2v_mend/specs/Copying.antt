-- Copies of the pieces of a span, as they are put behind a strand; and the fault of a span that doesn't go there.
use Rattle.std.specs.Prelude.{◌≡◌, ℕ, ◌+◌, ◌-◌, ◌*◌, Bool, true, false, List, [], ◌∷◌, max}
use Rattle.m2v_model.specs.declared.fault.FaultKind.TheVariants.{Truncated, SequenceChanged, MissingReference}
use Rattle.m2v_model.specs.Units.{Units, joined}
use Rattle.m2v_decode.specs.m2v_dec_piece.declared.answer.Piece.{Piece}
use Rattle.m2v_decode.specs.m2v_dec_piece.declared.answer.Fault.{Fault}
use Rattle.m2v_decode.specs.Decoding.{whole_of}
use Rattle.m2v_law_group.specs.Groups.{has_sequence, from_sequence}
use Rattle.m2v_law_seam.specs.Spans.{units_of}
use Rattle.m2v_law_seam.specs.Seams.{lowered}
use Rattle.m2v_mend.specs.declared.refusal.Refusal.{Refusal}
use Rattle.m2v_mend.specs.declared.refusal.Refusal.TheVariants as refusals

-- the units that are put behind a strand: behind one with a byte all of them, else those from the first sequence header on
abbrev pub units_behind : Bool → Units → Units
units_behind true us = us
units_behind false us = from_sequence us

-- a piece that is made of another: it has these units, and ends where the other one ends; where the strand has a byte it also
-- begins there
pub record HasUnits (us : Units) (begun : Bool) (old new : Piece) : Type 0 where
  pub bytes : whole_of new ≡ joined us
  pub units : units_of (whole_of new) ≡ us
  pub place : begun ≡ true → new.place ≡ old.place
  pub end : new.place + new.length ≡ old.place + old.length

-- a piece can be put behind nothing
abbrev pub HasHeader : Bool → Piece → Type 0
HasHeader begun p = begun ≡ false → has_sequence (units_of (whole_of p)) ≡ true

-- it is without what stands before its first sequence header, where the strand has no byte
abbrev pub IsFront : Bool → Piece → Piece → Type 0
IsFront begun old new = HasHeader begun old → HasUnits (units_behind begun (units_of (whole_of old))) begun old new

-- and its temporal references are lowered
abbrev pub IsCopy : Bool → ℕ → Piece → Piece → Type 0
IsCopy begun low old new = HasHeader begun old → HasUnits (lowered low (units_behind begun (units_of (whole_of old)))) begun old new

-- pieces are copies of others: behind the first one a strand has a byte
abbrev pub AreCopies : Bool → ℕ → List Piece → List Piece → Type 0
AreCopies begun low [] [] = Unit {0}
AreCopies begun low [] (q ∷ qs) = ⊥
AreCopies begun low (p ∷ ps) [] = ⊥
AreCopies begun low (p ∷ ps) (q ∷ qs) = IsCopy begun low p q × AreCopies true low ps qs

-- the fault of a span that ends at a byte of the input, by why it doesn't go behind a strand, and how many bytes it has with
-- those of the strand. Its first header agrees where one that agreed is in force, so the last kind never comes.
abbrev pub fault_by : Refusal → ℕ → ℕ → Fault
fault_by refusals.Open end total = record { kind = Truncated; place = 8 * end - 24 }
fault_by (refusals.Fault f) end total = record { kind = f.kind; place = max f.place (8 * end - 8 * total) }
fault_by (refusals.Rule place) end total = record { kind = MissingReference; place = place }
fault_by refusals.Other end total = record { kind = SequenceChanged; place = 0 }
