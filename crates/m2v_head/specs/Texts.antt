-- What each header is written as: its elements in the order of the standard's syntax tables (clauses 6.2.2 to 6.2.4).
-- Nothing is written where an element may be left out.
use Rattle.std.specs.Prelude.{ℕ, Bool, true, false, cond, List, [], ◌∷◌, map, Option, Some, None, nat_eq, slice_index, slice_index_or}
use Rattle.m2v_bits.specs.Bits.{bits, bits_of, ◌⧺◌}
use Rattle.m2v_quant.specs.Scans.{zigzag}
use Rattle.m2v_head.specs.declared.sequence.SequenceInfo.{SequenceInfo}
use Rattle.m2v_head.specs.declared.sequence.SequenceExtension.{SequenceExtension}
use Rattle.m2v_head.specs.declared.group.GroupInfo.{GroupInfo}
use Rattle.m2v_head.specs.declared.picture.PictureInfo.{PictureInfo}
use Rattle.m2v_head.specs.declared.picture.PictureExtension.{PictureExtension}
use Rattle.m2v_head.specs.declared.matrix.MatrixInfo.{MatrixInfo}
use Rattle.m2v_head.specs.declared.slice.SliceInfo.{SliceInfo}

abbrev pub flag : Bool → List Bool
flag b = b ∷ []

abbrev pub marker : List Bool
marker = true ∷ []

-- the 64 numbers of a matrix, in zigzag order
unfoldable pub matrix_text : List ℕ → List Bool
matrix_text m = bits (map (λ p. slice_index m p) zigzag)

-- the flag of a matrix, and the matrix where there is one
unfoldable pub loaded_text : Option (List ℕ) → List Bool
loaded_text None = flag false
loaded_text (Some m) = flag true ⧺ matrix_text m

-- clause 6.2.2.1
unfoldable pub sequence_text : SequenceInfo → List Bool
sequence_text s =
    bits_of 12 s.horizontal_size
    ⧺ bits_of 12 s.vertical_size
    ⧺ bits_of 4 s.aspect
    ⧺ bits_of 4 s.frame_rate_code
    ⧺ bits_of 18 s.bit_rate
    ⧺ marker
    ⧺ bits_of 10 s.vbv_buffer_size
    ⧺ flag s.constrained
    ⧺ loaded_text s.load_intra
    ⧺ loaded_text s.load_non_intra

-- the elements of a sequence extension from the extension of the bit rate on
unfoldable pub rates_text : SequenceExtension → List Bool
rates_text s =
    bits_of 12 s.bit_rate_ext
    ⧺ marker
    ⧺ bits_of 8 s.vbv_ext
    ⧺ flag s.low_delay
    ⧺ bits_of 2 s.rate_n
    ⧺ bits_of 5 s.rate_d

-- clause 6.2.2.3
unfoldable pub sequence_extension_text : SequenceExtension → List Bool
sequence_extension_text s =
    bits_of 4 1
    ⧺ bits_of 8 s.profile_and_level
    ⧺ flag s.progressive_sequence
    ⧺ bits_of 2 s.chroma_format
    ⧺ bits_of 2 s.horizontal_ext
    ⧺ bits_of 2 s.vertical_ext
    ⧺ rates_text s

-- clause 6.2.2.6
unfoldable pub group_text : GroupInfo → List Bool
group_text g =
    flag g.«drop»
    ⧺ bits_of 5 g.hours
    ⧺ bits_of 6 g.minutes
    ⧺ marker
    ⧺ bits_of 6 g.seconds
    ⧺ bits_of 6 g.pictures
    ⧺ flag g.closed_gop
    ⧺ flag g.broken_link

-- what only P and B pictures have
unfoldable pub directions_text : PictureInfo → List Bool
directions_text p =
    cond (nat_eq p.kind 1) []
    (flag p.full_pel_forward
    ⧺ bits_of 3 p.forward_f_code
    ⧺ cond (nat_eq p.kind 2) [] (flag p.full_pel_backward ⧺ bits_of 3 p.backward_f_code))

-- clause 6.2.3, without extra information
unfoldable pub picture_text : PictureInfo → List Bool
picture_text p =
    bits_of 10 p.temporal_reference
    ⧺ bits_of 3 p.kind
    ⧺ bits_of 16 p.vbv_delay
    ⧺ directions_text p
    ⧺ flag false

-- the f_code of a direction (0 forward, 1 backward) and a component (0 horizontal, 1 vertical)
abbrev pub f_code_of : List (List ℕ) → ℕ → ℕ → ℕ
f_code_of f_code direction component = slice_index (slice_index_or f_code direction []) component

abbrev pub f_codes_text : List (List ℕ) → List Bool
f_codes_text f_code =
    bits_of 4 (f_code_of f_code 0 0)
    ⧺ bits_of 4 (f_code_of f_code 0 1)
    ⧺ bits_of 4 (f_code_of f_code 1 0)
    ⧺ bits_of 4 (f_code_of f_code 1 1)

-- the flag of composite_display_flag, and where it is set the 20 bits behind it
unfoldable pub composite_text : Option ℕ → List Bool
composite_text None = flag false
composite_text (Some display) = flag true ⧺ bits_of 20 display

-- the nine flags of a picture coding extension
unfoldable pub flags_text : PictureExtension → List Bool
flags_text p =
    flag p.top_field_first
    ⧺ flag p.frame_pred_frame_dct
    ⧺ flag p.concealment
    ⧺ flag p.q_scale_type
    ⧺ flag p.intra_vlc_format
    ⧺ flag p.alternate_scan
    ⧺ flag p.repeat_first_field
    ⧺ flag p.chroma_420_type
    ⧺ flag p.progressive_frame

-- clause 6.2.3.1
unfoldable pub picture_extension_text : PictureExtension → List Bool
picture_extension_text p =
    bits_of 4 8
    ⧺ f_codes_text p.f_code
    ⧺ bits_of 2 p.dc_precision
    ⧺ bits_of 2 p.structure
    ⧺ flags_text p
    ⧺ composite_text p.composite

-- clause 6.2.3.2
unfoldable pub matrices_text : MatrixInfo → List Bool
matrices_text m =
    bits_of 4 3
    ⧺ loaded_text m.intra
    ⧺ loaded_text m.non_intra
    ⧺ loaded_text m.chroma_intra
    ⧺ loaded_text m.chroma_non_intra

-- the flag of intra_slice, intra_slice and seven reserved bits, where the slice tells them
unfoldable pub intra_slice_text : Option Bool → ℕ → List Bool
intra_slice_text None reserved = []
intra_slice_text (Some intra_slice) reserved = flag true ⧺ flag intra_slice ⧺ bits_of 7 reserved

-- clause 6.2.4, without extra information
unfoldable pub slice_text : SliceInfo → List Bool
slice_text s = bits_of 5 s.quantiser ⧺ intra_slice_text s.intra_slice s.reserved ⧺ flag false
