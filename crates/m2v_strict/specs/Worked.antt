-- Worked headers, and what the stricter rules remark of them, written out by hand in the law on them.
use Rattle.std.specs.Prelude.{true, false, [], ◌∷◌}
use Rattle.m2v_model.specs.m2v_macroblock.m2v_head.declared.sequence.SequenceInfo.{SequenceInfo}
use Rattle.m2v_model.specs.m2v_macroblock.m2v_head.declared.sequence.SequenceExtension.{SequenceExtension}
use Rattle.m2v_model.specs.m2v_macroblock.m2v_head.declared.group.GroupInfo.{GroupInfo}
use Rattle.m2v_model.specs.m2v_macroblock.m2v_head.declared.picture.PictureInfo.{PictureInfo}
use Rattle.m2v_model.specs.m2v_macroblock.m2v_head.declared.picture.PictureExtension.{PictureExtension}
use Rattle.m2v_model.specs.declared.state.Sequence.{Sequence}
use Rattle.m2v_model.specs.declared.notes.PictureNote.{PictureNote}
use Rattle.m2v_model.specs.Plain.{plain_sequence, plain_sequence_extension, plain_picture, plain_picture_extension}
use Rattle.m2v_check.specs.declared.coded.CodedPicture.{CodedPicture}

-- television of 704 by 484 at 29.97 Hz, interlaced, of Main Profile at Main Level, at 6 Mbit/s: 4 lines of 484 stand in the 16th
-- pair of macroblock rows, so that 512 lines are coded
abbrev pub info : SequenceInfo
info = record (plain_sequence 704 484 4) { aspect = 2; bit_rate = 15000 }

abbrev pub extension : SequenceExtension
extension = plain_sequence_extension 72 false

abbrev pub television : Sequence
television = record { info = info; extension = extension }

-- a later header of the same at 4 Mbit/s and low delay
abbrev pub changed : Sequence
changed = record {
  info = record info { bit_rate = 10000 };
  extension = record extension { low_delay = true };
}

-- 00:01:00 and picture 1, drop_frame_flag set
abbrev pub passed_over : GroupInfo
passed_over = record { «drop» = true; hours = 0; minutes = 1; seconds = 0; pictures = 1; closed_gop = true; broken_link = false }

-- ten minutes later
abbrev pub tenth : GroupInfo
tenth = record passed_over { minutes = 10 }

-- an I picture at constant rate: a progressive frame with dct_type, whose chroma isn't so, and an f_code that isn't used
abbrev pub picture_info : PictureInfo
picture_info = record (plain_picture 0) { vbv_delay = 20000 }

abbrev pub picture_extension : PictureExtension
picture_extension = record plain_picture_extension {
  f_code = (15 ∷ 15 ∷ []) ∷ (15 ∷ 3 ∷ []) ∷ [];
  top_field_first = true;
  frame_pred_frame_dct = false;
  chroma_420_type = false;
}

abbrev pub note : PictureNote
note = record {
  info = picture_info;
  extension = picture_extension;
  code_end = 400;
  dropped = false;
  first = true;
  crowded = 0;
}

abbrev pub frame : CodedPicture
frame = record { number = 0; sequence = television; first_in_group = true; note = note }

-- a field picture of type P, at variable rate, with the flags of a progressive frame
abbrev pub field : CodedPicture
field = record frame {
  note = record note {
    info = record picture_info { kind = 2; vbv_delay = 65535; full_pel_forward = true; forward_f_code = 7 };
    extension = record picture_extension { f_code = (2 ∷ 2 ∷ []) ∷ (15 ∷ 15 ∷ []) ∷ []; structure = 1; chroma_420_type = true };
  };
}
