-- Bytes of a piece that change.
use Rattle.std.specs.Prelude.{◌≡◌, ℕ, ◌+◌, ◌-◌, ◌<◌, ◌≤◌, List, ◌∷◌, ◌++◌, length, min, vec_len, slice_index, map}
use Rattle.m2v_model.specs.Units.{Units, joined}
use Rattle.m2v_model.specs.Pieces.{before_sequence}
use Rattle.m2v_decode.specs.m2v_dec_piece.declared.answer.Piece.{Piece}
use Rattle.m2v_decode.specs.Decoding.{whole_of}
use Rattle.m2v_dec_unit.specs.Texts.{text_of, IsZeroEnded}
use Rattle.m2v_law_group.specs.Groups.{from_sequence}
use Rattle.m2v_law_seam.specs.Spans.{units_of}
use Rattle.m2v_law_seam.specs.Seams.{lowered_unit, marked_unit}
use Rattle.m2v_mend.specs.declared.edits.Edit.{Edit}
use Rattle.m2v_mend.specs.declared.edits.Edit.TheVariants.{Lower, Mark}

-- bytes that are units, from the first one on
abbrev pub IsWhole : List ℕ → Type 0
IsWhole bytes = bytes ≡ joined (units_of bytes)

-- a piece that is
abbrev pub IsUnits : Piece → Type 0
IsUnits p = IsWhole (whole_of p)

-- the zero bytes of a piece that aren't kept
abbrev pub zeros_in : Piece → ℕ
zeros_in p = p.length - vec_len p.bytes

-- where zero bytes are left out, the last eight that are kept are zero
abbrev pub EndsInZeros : List ℕ → ℕ → Type 0
EndsInZeros bytes zeros = 0 < zeros → (k : ℕ) → length bytes ≤ k + 8 → slice_index bytes k ≡ 0

-- what an edit makes of a unit
abbrev pub edited : Edit → List ℕ → List ℕ
edited (Lower low) u = lowered_unit low u
edited Mark u = marked_unit u

-- the bytes that an edit may change are kept
abbrev pub HasRoom : Edit → List ℕ → ℕ → Type 0
HasRoom (Lower low) bytes zeros = IsZeroEnded bytes zeros
HasRoom Mark bytes zeros = EndsInZeros bytes zeros

-- with so many bytes the first unit of a text stands in those that are kept
pub record IsFirstLength (bytes : List ℕ) (zeros : ℕ) (n : ℕ) : Type 0 where
  pub unit : List ℕ
  pub others : Units
  pub are : units_of (text_of bytes zeros) ≡ unit ∷ others
  pub least : n ≡ min (length unit) (length bytes)

-- a piece of which each unit was edited
pub record IsEdited (e : Edit) (old new : Piece) : Type 0 where
  pub bytes : whole_of new ≡ joined (map (edited e) (units_of (whole_of old)))
  pub units : units_of (whole_of new) ≡ map (edited e) (units_of (whole_of old))
  pub place : new.place ≡ old.place
  pub length : new.length ≡ old.length
  pub kept : vec_len new.bytes ≡ vec_len old.bytes

-- a piece from its first sequence header on; zero bytes that are kept stay
pub record IsFromHeader (old new : Piece) : Type 0 where
  pub bytes : whole_of new ≡ joined (from_sequence (units_of (whole_of old)))
  pub units : units_of (whole_of new) ≡ from_sequence (units_of (whole_of old))
  pub place : new.place ≡ old.place + length (before_sequence (units_of (whole_of old)))
  pub length_is : new.length + length (before_sequence (units_of (whole_of old))) ≡ old.length
  pub room : EndsInZeros old.bytes.items (zeros_in old) → EndsInZeros new.bytes.items (zeros_in new)

-- a piece with bytes in front of another
pub record HasFront (front : List ℕ) (old new : Piece) : Type 0 where
  pub bytes : whole_of new ≡ front ++ whole_of old
  pub place : new.place + length front ≡ old.place
  pub length_is : new.length ≡ length front + old.length
  pub kept : vec_len new.bytes ≡ length front + vec_len old.bytes
