-- The headers as the standard's syntax tables have them (clauses 6.2.2 to 6.2.4), from the bit behind the start code
-- on. Reading order is the order of the lines.
use Rattle.std.specs.Prelude.{ℕ, Bool, false, not, ◌&&◌, nat_eq, nat_le, nat_lt, List, [], ◌∷◌, Option, Some, None}
use Rattle.m2v_bits.specs.Syntax.{done, rule, choose, ◌>>=◌}
use Rattle.m2v_head.specs.declared.fault.HeadFault.TheVariants.{Forbidden, Unsupported}
use Rattle.m2v_head.specs.declared.sequence.SequenceInfo.{SequenceInfo}
use Rattle.m2v_head.specs.declared.sequence.SequenceExtension.{SequenceExtension}
use Rattle.m2v_head.specs.declared.group.GroupInfo.{GroupInfo}
use Rattle.m2v_head.specs.declared.picture.PictureInfo.{PictureInfo}
use Rattle.m2v_head.specs.declared.picture.PictureExtension.{PictureExtension}
use Rattle.m2v_head.specs.declared.matrix.MatrixInfo.{MatrixInfo}
use Rattle.m2v_head.specs.declared.slice.SliceInfo.{SliceInfo}
use Rattle.m2v_bits.specs.Elements.{left_at}
use Rattle.m2v_head.specs.Elements.{Header, number_at, flag_at, marker_at, id_at, some_at, pairs_at, loaded_at}

-- clause 6.2.2.1
unfoldable pub sequence_at : Header SequenceInfo
sequence_at = do
  horizontal_size ← number_at 12
  vertical_size ← number_at 12
  aspect ← number_at 4
  frame_rate_code ← number_at 4
  bit_rate ← number_at 18
  marker ← marker_at
  vbv_buffer_size ← number_at 10
  constrained ← flag_at
  load_intra ← loaded_at 9
  load_non_intra ← loaded_at 10
  done (record {
    horizontal_size = horizontal_size;
    vertical_size = vertical_size;
    aspect = aspect;
    frame_rate_code = frame_rate_code;
    bit_rate = bit_rate;
    vbv_buffer_size = vbv_buffer_size;
    constrained = constrained;
    load_intra = load_intra;
    load_non_intra = load_non_intra;
  })

-- chroma_format (table 6-5): only 4:2:0 is read, and 0 is reserved
unfoldable pub chroma_format_at : Header ℕ
chroma_format_at = do
  at ← left_at
  format ← number_at 2
  some ← rule (not (nat_eq format 0)) (Forbidden 4) at
  known ← rule (nat_eq format 1) (Unsupported 4 format) at
  done format

-- clause 6.2.2.3
unfoldable pub sequence_extension_at : Header SequenceExtension
sequence_extension_at = do
  id ← id_at 1
  profile_and_level ← number_at 8
  progressive_sequence ← flag_at
  chroma_format ← chroma_format_at
  horizontal_ext ← number_at 2
  vertical_ext ← number_at 2
  bit_rate_ext ← number_at 12
  marker ← marker_at
  vbv_ext ← number_at 8
  low_delay ← flag_at
  rate_n ← number_at 2
  rate_d ← number_at 5
  done (record {
    profile_and_level = profile_and_level;
    progressive_sequence = progressive_sequence;
    chroma_format = chroma_format;
    horizontal_ext = horizontal_ext;
    vertical_ext = vertical_ext;
    bit_rate_ext = bit_rate_ext;
    vbv_ext = vbv_ext;
    low_delay = low_delay;
    rate_n = rate_n;
    rate_d = rate_d;
  })

-- clause 6.2.2.6
unfoldable pub group_at : Header GroupInfo
group_at = do
  drop_frame ← flag_at
  hours ← number_at 5
  minutes ← number_at 6
  marker ← marker_at
  seconds ← number_at 6
  pictures ← number_at 6
  closed_gop ← flag_at
  broken_link ← flag_at
  done (record {
    «drop» = drop_frame;
    hours = hours;
    minutes = minutes;
    seconds = seconds;
    pictures = pictures;
    closed_gop = closed_gop;
    broken_link = broken_link;
  })

-- picture_coding_type (table 6-12): 1 I, 2 P, 3 B; a D picture, 4, isn't read, and the others may not stand
unfoldable pub kind_at : Header ℕ
kind_at = do
  at ← left_at
  kind ← number_at 3
  allowed ← rule (nat_le 1 kind && nat_le kind 4) (Forbidden 2) at
  known ← rule (nat_lt kind 4) (Unsupported 2 kind) at
  done kind

-- full_pel_vector and f_code of a direction
unfoldable pub vectors_at : Header (Bool × ℕ)
vectors_at = do
  full_pel ← flag_at
  f_code ← number_at 3
  done (full_pel, f_code)

-- clause 6.2.3
unfoldable pub picture_at : Header PictureInfo
picture_at = do
  temporal_reference ← number_at 10
  kind ← kind_at
  vbv_delay ← number_at 16
  forward ← choose (not (nat_eq kind 1)) vectors_at (done (false, 0))
  backward ← choose (nat_eq kind 3) vectors_at (done (false, 0))
  extra ← pairs_at
  done (record {
    temporal_reference = temporal_reference;
    kind = kind;
    vbv_delay = vbv_delay;
    full_pel_forward = forward.0;
    forward_f_code = forward.1;
    full_pel_backward = backward.0;
    backward_f_code = backward.1;
  })

-- f_code of each direction and component
unfoldable pub f_codes_at : Header (List (List ℕ))
f_codes_at = do
  forward_horizontal ← number_at 4
  forward_vertical ← number_at 4
  backward_horizontal ← number_at 4
  backward_vertical ← number_at 4
  done ((forward_horizontal ∷ forward_vertical ∷ []) ∷ (backward_horizontal ∷ backward_vertical ∷ []) ∷ [])

-- the 20 bits behind composite_display_flag
unfoldable pub display_at : Header (Option ℕ)
display_at = do
  display ← number_at 20
  done (Some display)

-- composite_display_flag, and what stands behind it where it is set
unfoldable pub composite_at : Header (Option ℕ)
composite_at = do
  composite ← flag_at
  choose composite display_at (done None)

-- clause 6.2.3.1; picture_structure 0 is reserved (table 6-14)
unfoldable pub picture_extension_at : Header PictureExtension
picture_extension_at = do
  id ← id_at 8
  f_code ← f_codes_at
  dc_precision ← number_at 2
  structure ← some_at 7 2
  top_field_first ← flag_at
  frame_pred_frame_dct ← flag_at
  concealment ← flag_at
  q_scale_type ← flag_at
  intra_vlc_format ← flag_at
  alternate_scan ← flag_at
  repeat_first_field ← flag_at
  chroma_420_type ← flag_at
  progressive_frame ← flag_at
  composite ← composite_at
  done (record {
    f_code = f_code;
    dc_precision = dc_precision;
    structure = structure;
    top_field_first = top_field_first;
    frame_pred_frame_dct = frame_pred_frame_dct;
    concealment = concealment;
    q_scale_type = q_scale_type;
    intra_vlc_format = intra_vlc_format;
    alternate_scan = alternate_scan;
    repeat_first_field = repeat_first_field;
    chroma_420_type = chroma_420_type;
    progressive_frame = progressive_frame;
    composite = composite;
  })

-- clause 6.2.3.2
unfoldable pub matrices_at : Header MatrixInfo
matrices_at = do
  id ← id_at 3
  intra ← loaded_at 2
  non_intra ← loaded_at 3
  chroma_intra ← loaded_at 4
  chroma_non_intra ← loaded_at 5
  done (record { intra = intra; non_intra = non_intra; chroma_intra = chroma_intra; chroma_non_intra = chroma_non_intra })

-- what stands behind a 1 in a slice header: intra_slice, seven reserved bits and extra information
unfoldable pub intra_slice_at : Header (Option Bool × ℕ)
intra_slice_at = do
  intra_slice ← flag_at
  reserved ← number_at 7
  extra ← pairs_at
  done (Some intra_slice, reserved)

-- clause 6.2.4; quantiser_scale_code 0 is forbidden
unfoldable pub slice_at : Header SliceInfo
slice_at = do
  quantiser ← some_at 1 5
  told ← flag_at
  behind ← choose told intra_slice_at (done (None, 0))
  done (record { quantiser = quantiser; intra_slice = behind.0; reserved = behind.1 })
