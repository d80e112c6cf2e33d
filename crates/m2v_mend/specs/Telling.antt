-- What a piece tells without being decoded.
use Rattle.std.specs.Prelude.{◌≡◌, ℕ, ◌+◌, ◌≤◌, Bool, true, false, ◌&&◌, ◌||◌, nat_eq, List, [], ◌∷◌, length, Option, Some, None, if◌then◌else◌}
use Rattle.m2v_model.specs.Units.{Units, joined, unit_bits, body}
use Rattle.m2v_model.specs.Looking.{number_from}
use Rattle.m2v_model.specs.Streams.{value_of}
use Rattle.m2v_decode.specs.m2v_dec_piece.Slices.{is_slice}
use Rattle.m2v_law_group.specs.Groups.{is_sequence, is_group, has_sequence, coded_pictures}
use Rattle.m2v_law_seam.specs.Spans.{has_group, picture_count, number_or, first_field, is_matrices, has_matrices}
use Rattle.m2v_law_seam.specs.Faults.{before_picture, before_matrices}
use Rattle.m2v_mend.specs.declared.info.PieceInfo.{PieceInfo}
use Rattle.m2v_mend.specs.declared.info.Counted.{Counted}

-- picture_coding_type of the first of pictures; 0 where there is none, or where it can't be told
abbrev pub first_kind : List (List ℕ × List ℕ) → ℕ
first_kind [] = 0
first_kind (p ∷ ps) = number_or 0 (number_from 10 3 (body p.0))

-- a unit, or no byte
abbrev pub unit_or_none : Option (List ℕ) → List ℕ
unit_or_none None = []
unit_or_none (Some u) = u

-- among units a sequence header stands behind another, or behind one that was met before them
unfoldable pub more_sequences : Bool → Units → Bool
more_sequences met [] = false
more_sequences met (u ∷ us) = (met && is_sequence u) || more_sequences (met || is_sequence u) us

-- each field is what the definitions say of the units of the piece
pub record IsInfo (us : Units) (i : PieceInfo) : Type 0 where
  pub sequence : i.sequence ≡ has_sequence us
  pub again : i.again ≡ more_sequences false us
  pub group : i.group ≡ has_group us
  pub pictures : i.pictures ≡ picture_count us
  pub kind : i.kind ≡ first_kind (coded_pictures us)
  pub field : i.field ≡ first_field (coded_pictures us)
  pub matrices : i.matrices ≡ has_matrices us
  pub picture_place : i.picture_place ≡ length (joined (before_picture 0 us))
  pub matrices_place : i.matrices_place ≡ length (joined (before_matrices us))

-- what is counted of units
pub record IsCounted (us : Units) (c : Counted) : Type 0 where
  pub sequence : c.sequence ≡ has_sequence us
  pub again : c.again ≡ more_sequences false us
  pub group : c.group ≡ has_group us
  pub pictures : c.pictures ≡ picture_count us
  pub matrices : c.matrices ≡ has_matrices us
  pub place : c.matrices_place ≡ length (joined (before_matrices us))

-- how many picture units there are with one of this value
abbrev pub pictures_with : ℕ → ℕ → ℕ
pictures_with value pictures = if nat_eq value 0x00 then pictures + 1 else pictures

-- how many bytes stand before the first quant matrix extension with a unit of so many, where one is among the units or not
abbrev pub place_with : Bool → ℕ → ℕ → ℕ
place_with matrices bytes place = if matrices then place else place + bytes

-- what is counted with one unit more
abbrev pub counted_with : List ℕ → Counted → Counted
counted_with u c = record {
  sequence = c.sequence || is_sequence u;
  again = c.again || (c.sequence && is_sequence u);
  group = c.group || is_group u;
  pictures = pictures_with (value_of u) c.pictures;
  matrices = c.matrices || is_matrices u;
  matrices_place = place_with (c.matrices || is_matrices u) (length u) c.matrices_place;
}

-- ---- where slices alone are left

-- a unit is a slice, where no more than so many bits are left of units with it
abbrev pub SlicesFrom : ℕ → Units → Type 0
SlicesFrom bits [] = Unit {0}
SlicesFrom bits (u ∷ us) = (unit_bits (u ∷ us) ≤ bits → is_slice (value_of u) ≡ true) × SlicesFrom bits us

-- what is counted with so many bytes of slices more
abbrev pub with_slices : ℕ → Counted → Counted
with_slices bytes c = record c { matrices_place = place_with c.matrices bytes c.matrices_place }
