-- What a decoder tells of a piece: its headers and its picture, without samples.
use Rattle.std.specs.Prelude.{ℕ, ◌+◌, ◌*◌, Bool, true, false, List, [], ◌∷◌, map, Option, Some, None}
use Rattle.m2v_macroblock.specs.m2v_head.declared.sequence.SequenceInfo.{SequenceInfo}
use Rattle.m2v_macroblock.specs.m2v_head.declared.sequence.SequenceExtension.{SequenceExtension}
use Rattle.m2v_model.specs.declared.state.Sequence.{Sequence}
use Rattle.m2v_model.specs.declared.notes.Notes.{Notes}
use Rattle.m2v_model.specs.declared.notes.PictureNote.{PictureNote}
use Rattle.m2v_model.specs.Pictures.{Picture, Pictures, Events, sequence_header, group_header, coded_picture, pictures_in}
use Rattle.m2v_model.specs.Lawful.{sequences_in}
use Rattle.m2v_model.specs.Buffering.{code_bits}

-- what notes tell
pub record PieceNotes : Type 0 where
  pub sequences : List (SequenceInfo × SequenceExtension)
  pub group : Bool
  pub picture : Option PictureNote

-- the notes of the program, as contracts see them
abbrev pub noted : Notes → PieceNotes
noted n = record { sequences = n.sequences.items; group = n.group; picture = n.picture }

abbrev pub header_pair : Sequence → SequenceInfo × SequenceExtension
header_pair s = (s.info, s.extension)

unfoldable pub has_group : Events → Bool
has_group [] = false
has_group (sequence_header s ∷ es) = has_group es
has_group (group_header g ∷ es) = true
has_group (coded_picture p ∷ es) = has_group es

-- a picture whose start code ends at a bit of the input
abbrev pub note_of : ℕ → Picture → PictureNote
note_of code_end p = record {
  info = p.info;
  extension = p.extension;
  code_end = code_end;
  dropped = p.dropped;
  first = p.begins_frame;
  crowded = p.crowded_row;
}

-- of a picture, where there is one
abbrev pub first_note : ℕ → Pictures → Option PictureNote
first_note code_end [] = None
first_note code_end (p ∷ ps) = Some (note_of code_end p)

-- the notes of a piece that begins at a byte of the input and tells these events: it has one picture at most
unfoldable pub notes_of : ℕ → List ℕ → Events → PieceNotes
notes_of place piece es = record {
  sequences = map header_pair (sequences_in es);
  group = has_group es;
  picture = first_note (8 * place + code_bits piece) (pictures_in es);
}
