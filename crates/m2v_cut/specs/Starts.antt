-- What a piece tells of a group whose header it holds.
use Rattle.std.specs.Prelude.{◌≡◌, ◌⊎◌, ℕ, ◌+◌, ◌*◌, Bool, true, false, ◌&&◌, ◌||◌, not, nat_eq, nat_le, List, [], ◌∷◌, ◌++◌, length, drop, Option, Some, None, if◌then◌else◌}
use Rattle.m2v_model.specs.Units.{Units, unit_bits}
use Rattle.m2v_port.specs.Ends.{Change}
use Rattle.m2v_decode.specs.m2v_dec_piece.declared.answer.Piece.{Piece}
use Rattle.m2v_decode.specs.m2v_dec_piece.declared.answer.DecodeError.{DecodeError}
use Rattle.m2v_decode.specs.m2v_dec_piece.declared.answer.DecodeError.TheVariants as reading
use Rattle.m2v_decode.specs.m2v_dec_piece.Cutting.{Cutting, PieceStops, left_of, start_of as start_of_rest}
use Rattle.m2v_decode.specs.m2v_dec_piece.Sound.{IsSoundPiece}
use Rattle.m2v_decode.specs.Decoding.{whole_of}
use Rattle.m2v_law_group.specs.m2v_dec_unit.Texts.{units_in}
use Rattle.m2v_law_group.specs.Groups.{has_sequence, from_last_sequence, before_group, from_group}
use Rattle.m2v_cut.specs.declared.answer.CutError.{CutError}
use Rattle.m2v_cut.specs.declared.answer.CutError.TheVariants as errors
use Rattle.m2v_cut.specs.declared.look.FirstPicture.{FirstPicture}
use Rattle.m2v_cut.specs.declared.start.Start.{Start}
use Rattle.m2v_cut.specs.Answers.{first_picture, has_intra, picture_structure}
use Rattle.m2v_cut.specs.Progress.{Onward, ReadOn}

-- the place in bytes of the last sequence header of units before others, where there is one
abbrev pub IsSequencePlace : Option ℕ → Units → Units → Units → Type 0
IsSequencePlace None all before behind = has_sequence before ≡ false
IsSequencePlace (Some at) all before behind =
    (has_sequence before ≡ true) × (8 * at + unit_bits (from_last_sequence before ++ behind) ≡ unit_bits all)

-- the first of some units has a group header's bits: eight bytes, the start code among them
abbrev pub is_long : Units → Bool
is_long [] = false
is_long (u ∷ us) = nat_le 8 (length u)

-- a picture, as it is looked at
pub record IsLooked (found : Option (List ℕ × List ℕ)) (f : FirstPicture) : Type 0 where
  pub intra : f.intra ≡ has_intra found
  pub structure : f.structure ≡ picture_structure found

-- what a piece's units tell of group n
pub record IsStart (us : Units) (n : ℕ) (s : Start) : Type 0 where
  pub sequence : IsSequencePlace s.sequence us (before_group n us) (from_group n us)
  pub header : 8 * s.header + unit_bits (from_group n us) ≡ unit_bits us
  pub long : s.long ≡ is_long (from_group n us)
  pub first : IsLooked (first_picture (drop 1 (from_group n us))) s.first

-- a number of a field
abbrev pub is_field_number : ℕ → Bool
is_field_number structure = nat_eq structure 1 || nat_eq structure 2

-- another field of type I
abbrev pub is_other : FirstPicture → Option (List ℕ × List ℕ) → Bool
is_other f second = has_intra second && (is_field_number (picture_structure second) && not (nat_eq (picture_structure second) f.structure))

-- the first frame is one of type I, or two fields of that type, where a second piece was read for a field
abbrev pub is_intra_frame : FirstPicture → Option Piece → Bool
is_intra_frame f None = f.intra && nat_eq f.structure 3
is_intra_frame f (Some p) = f.intra && is_other f (first_picture (units_in (whole_of p)))

-- the place of the last sequence header of a group that can be cut out
abbrev pub cut_place : Start → Option Piece → Option ℕ
cut_place s second = if s.long && is_intra_frame s.first second then s.sequence else None

-- the piece that is read behind a group's first one, where the picture of that is one field
abbrev pub piece_list : Option Piece → List (List ℕ)
piece_list None = []
piece_list (Some p) = whole_of p ∷ []

-- why no second piece is there, or what is known of it
abbrev pub SecondIs : Option Piece → FirstPicture → (List ℕ → List (List ℕ)) → Option (List ℕ) → Type 0
SecondIs None f others new = (is_field_number f.structure ≡ false) ⊎ ((rest : List ℕ) → new ≡ Some rest → others rest ≡ [])
SecondIs (Some p) f others new = (is_field_number f.structure ≡ true) × IsSoundPiece p

pub record Second (f : FirstPicture) (old new : Option (List ℕ)) (c c' : Cutting) (piece : Option Piece) : Type 0 where
  pub onward : Onward old new c c' (piece_list piece)
  pub is : SecondIs piece f (left_of c') new

-- why it wasn't read
pub record SecondStops (left : Change) (c : Cutting) (e : DecodeError) : Type 0 where
  pub read : ReadOn left.old left.new c []
  pub over : (rest : List ℕ) → left.new ≡ Some rest → PieceStops (start_of_rest read.then_is (read.bytes ++ rest)) (left_of read.then_is (read.bytes ++ rest)) e

abbrev pub SecondFails : Change → Cutting → CutError → Type 0
SecondFails left c errors.Read = left.Failed × ReadOn left.old left.new c []
SecondFails left c errors.Write = ⊥
SecondFails left c (errors.NoGroup have need) = ⊥
SecondFails left c (errors.NotCuttable place) = ⊥
SecondFails left c errors.TooLong = SecondStops left c reading.TooLong
SecondFails left c errors.PictureTooLarge = SecondStops left c reading.PictureTooLarge
SecondFails left c errors.Memory = ReadOn left.old left.new c []
