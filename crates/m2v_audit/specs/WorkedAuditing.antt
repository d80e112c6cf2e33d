-- A worked sequence of one picture, and its end code: all that is told of it is written out by hand in the law on it.
use Rattle.std.specs.Prelude.{ℕ, true, false, List, [], ◌∷◌, ◌++◌, Some, None}
use Rattle.m2v_model.specs.m2v_macroblock.m2v_head.declared.sequence.SequenceInfo.{SequenceInfo}
use Rattle.m2v_model.specs.m2v_macroblock.m2v_head.declared.picture.PictureInfo.{PictureInfo}
use Rattle.m2v_model.specs.m2v_macroblock.m2v_head.declared.picture.PictureExtension.{PictureExtension}
use Rattle.m2v_model.specs.declared.notes.PictureNote.{PictureNote}
use Rattle.m2v_model.specs.PieceNotes.{PieceNotes}
use Rattle.m2v_strict.specs.declared.rule_set.RuleSet.TheVariants as sets
use Rattle.m2v_strict.specs.Worked.{info, extension, picture_info, picture_extension, note}
use Rattle.m2v_audit.specs.WorkedPiece.{sequence_units, group_unit, picture_unit}
use Rattle.m2v_audit.specs.Auditing.{Auditing, nothing, after_piece, ended}

-- what the headers of the worked piece say: another size and frame rate than those of the worked headers
abbrev pub sequence_info : SequenceInfo
sequence_info = record info { horizontal_size = 720; vertical_size = 576; frame_rate_code = 3 }

-- an I picture at variable rate, which says that it is the third to be shown
abbrev pub third_info : PictureInfo
third_info = record picture_info { temporal_reference = 2; vbv_delay = 65535 }

-- a frame that is shown for three fields, whose DC coefficients have a precision of 11 bits, one more than rule 15 allows
abbrev pub third_extension : PictureExtension
third_extension = record picture_extension {
  f_code = (15 ∷ 15 ∷ []) ∷ (15 ∷ 15 ∷ []) ∷ [];
  dc_precision = 3;
  repeat_first_field = true;
  chroma_420_type = true;
}

abbrev pub third : PictureNote
third = record note { info = third_info; extension = third_extension; code_end = 1072 }

-- its headers with two zero bytes after them, which stand for its slices
abbrev pub first_piece : List ℕ
first_piece = sequence_units ++ group_unit ++ picture_unit ++ 0x00 ∷ 0x00 ∷ []

abbrev pub first_notes : PieceNotes
first_notes = record {
  sequences = (sequence_info, extension) ∷ [];
  group = true;
  picture = Some third;
}

-- the sequence end code
abbrev pub last_piece : List ℕ
last_piece = 0x00 ∷ 0x00 ∷ 0x01 ∷ 0xB7 ∷ []

abbrev pub last_notes : PieceNotes
last_notes = record { sequences = []; group = false; picture = None }

-- the sequence begins at byte 100 of a text that begins at byte 90
abbrev pub begun : Auditing
begun = after_piece (nothing 0 (record { rules = sets.Main; pictures = true; first = None }) 90) 100 first_piece first_notes

abbrev pub over : Auditing
over = ended (after_piece begun 140 last_piece last_notes)
