-- What is told where a command stopped: the status and the line of each error.
use Rattle.std.specs.Prelude.{ℕ, [], ◌∷◌, codes}
use Rattle.m2v_model.specs.Pieces.{too_long, too_large}
use Rattle.m2v_flat.specs.declared.answer.EncodeError.{EncodeError as FlatError}
use Rattle.m2v_flat.specs.declared.answer.EncodeError.TheVariants as flat_errors
use Rattle.m2v_make.specs.m2v_encode.declared.answer.EncodeError.{EncodeError}
use Rattle.m2v_make.specs.m2v_encode.declared.answer.EncodeError.TheVariants as errors
use Rattle.m2v_dec_piece.specs.declared.answer.DecodeError.{DecodeError}
use Rattle.m2v_dec_piece.specs.declared.answer.DecodeError.TheVariants as decode_errors
use Rattle.m2v_cut.specs.declared.answer.CutError.{CutError}
use Rattle.m2v_cut.specs.declared.answer.CutError.TheVariants as cut_errors
use Rattle.m2v_mend.specs.declared.answer.MendError.{MendError}
use Rattle.m2v_mend.specs.declared.answer.MendError.TheVariants as mend_errors
use Rattle.m2v_make.specs.declared.answer.MakeError.{MakeError}
use Rattle.m2v_make.specs.declared.answer.MakeError.TheVariants as make_errors
use Rattle.m2v_y4m.specs.declared.answer.EncodeFault.{EncodeFault}
use Rattle.m2v_y4m.specs.declared.answer.EncodeFault.TheVariants as packing
use Rattle.m2v_y4m.specs.declared.answer.UnpackError.{UnpackError}
use Rattle.m2v_y4m.specs.declared.answer.UnpackError.TheVariants as unpacking
use Rattle.m2v_y4m.specs.declared.answer.Y4mError.{Y4mError}
use Rattle.m2v_y4m.specs.declared.answer.Y4mError.TheVariants as opening_errors
use Rattle.m2v_tool.specs.Endings.{Ending, with_figures, numbered, read_fault, write_fault, no_memory, short_frame, no_frames, too_many_frames, ending_past, stream_fault, y4m_fault}

-- of raw frames that weren't coded to their end
unfoldable pub coding_stopped : FlatError → Ending
coding_stopped flat_errors.Read = read_fault
coding_stopped flat_errors.Write = write_fault
coding_stopped (flat_errors.ShortFrame extra) = short_frame extra
coding_stopped flat_errors.NoFrames = no_frames
coding_stopped flat_errors.TooManyFrames = too_many_frames
coding_stopped flat_errors.Memory = no_memory

-- of raw frames that weren't coded to their end
unfoldable pub encoding_stopped : EncodeError → Ending
encoding_stopped errors.Read = read_fault
encoding_stopped errors.Write = write_fault
encoding_stopped (errors.ShortFrame extra) = short_frame extra
encoding_stopped errors.NoFrames = no_frames
encoding_stopped errors.TooManyFrames = too_many_frames
encoding_stopped errors.Memory = no_memory

-- of raw frames that weren't packed to their end, and of a text that wasn't unpacked to its end
unfoldable pub packing_stopped : EncodeFault → Ending
packing_stopped packing.Read = read_fault
packing_stopped packing.Write = write_fault
packing_stopped (packing.ShortFrame extra) = short_frame extra
packing_stopped packing.TooManyFrames = too_many_frames
packing_stopped packing.Memory = no_memory

unfoldable pub unpacking_stopped : UnpackError → Ending
unpacking_stopped unpacking.Read = read_fault
unpacking_stopped unpacking.Write = write_fault
unpacking_stopped (unpacking.ShortFrame extra) = short_frame extra
unpacking_stopped unpacking.TooManyFrames = too_many_frames
unpacking_stopped (unpacking.Y4m f) = y4m_fault f
unpacking_stopped unpacking.Memory = no_memory

-- of a text whose header line wasn't read
unfoldable pub unread_ending : Y4mError → Ending
unread_ending opening_errors.Read = read_fault
unread_ending (opening_errors.Y4m fault) = y4m_fault fault
unread_ending opening_errors.Memory = no_memory

-- of a stream that wasn't decoded to its end
unfoldable pub decoding_stopped : DecodeError → Ending
decoding_stopped decode_errors.Read = read_fault
decoding_stopped decode_errors.Write = write_fault
decoding_stopped (decode_errors.Stream f) = stream_fault f
decoding_stopped decode_errors.TooLong = ending_past too_long
decoding_stopped decode_errors.PictureTooLarge = ending_past too_large
decoding_stopped decode_errors.Memory = no_memory

-- of an input that wasn't mended to its end
unfoldable pub mending_stopped : MendError → Ending
mending_stopped mend_errors.Read = read_fault
mending_stopped mend_errors.Write = write_fault
mending_stopped mend_errors.TooLong = ending_past too_long
mending_stopped mend_errors.PictureTooLarge = ending_past too_large
mending_stopped mend_errors.Memory = no_memory

-- of a stream that wasn't made
unfoldable pub making_stopped : MakeError → Ending
making_stopped make_errors.Write = write_fault
making_stopped make_errors.Memory = no_memory

-- of a stream that has too few groups, and of a group that needs what stands before it
abbrev pub no_group : ℕ → ℕ → Ending
no_group have need = with_figures 16 ((codes "no group have ", have) ∷ (codes " need ", need) ∷ [])

abbrev pub not_cuttable : ℕ → Ending
not_cuttable place = numbered 17 (codes "not cuttable at bit ") place

-- of a cut that wasn't made to its end
unfoldable pub cutting_stopped : CutError → Ending
cutting_stopped cut_errors.Read = read_fault
cutting_stopped cut_errors.Write = write_fault
cutting_stopped (cut_errors.NoGroup have need) = no_group have need
cutting_stopped (cut_errors.NotCuttable place) = not_cuttable place
cutting_stopped cut_errors.TooLong = ending_past too_long
cutting_stopped cut_errors.PictureTooLarge = ending_past too_large
cutting_stopped cut_errors.Memory = no_memory
