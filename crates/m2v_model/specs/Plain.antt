-- Plain headers, of Main Profile at Main Level: those of a progressive sequence of I pictures. Others are told by what they say
-- otherwise.
use Rattle.std.specs.Prelude.{ℕ, Bool, true, false, [], ◌∷◌, None}
use Rattle.m2v_macroblock.specs.m2v_head.declared.sequence.SequenceInfo.{SequenceInfo}
use Rattle.m2v_macroblock.specs.m2v_head.declared.sequence.SequenceExtension.{SequenceExtension}
use Rattle.m2v_macroblock.specs.m2v_head.declared.picture.PictureInfo.{PictureInfo}
use Rattle.m2v_macroblock.specs.m2v_head.declared.picture.PictureExtension.{PictureExtension}

-- Of a width, a height and a frame_rate_code: square samples, 37,500 times 400 bit/s, and a buffer of 112 times 16,384 bits, the
-- most of Main profile at Main level.
abbrev pub plain_sequence : ℕ → ℕ → ℕ → SequenceInfo
plain_sequence width height rate_code = record {
  horizontal_size = width;
  vertical_size = height;
  aspect = 1;
  frame_rate_code = rate_code;
  bit_rate = 37500;
  vbv_buffer_size = 112;
  constrained = false;
  load_intra = None;
  load_non_intra = None;
}

-- of a profile and level, and whether it is progressive: chroma_format 1 is 4:2:0, and the higher bits of all numbers are 0
abbrev pub plain_sequence_extension : ℕ → Bool → SequenceExtension
plain_sequence_extension profile_and_level progressive = record {
  profile_and_level = profile_and_level;
  progressive_sequence = progressive;
  chroma_format = 1;
  horizontal_ext = 0;
  vertical_ext = 0;
  bit_rate_ext = 0;
  vbv_ext = 0;
  low_delay = false;
  rate_n = 0;
  rate_d = 0;
}

-- an I picture of a temporal reference, which tells no delay
abbrev pub plain_picture : ℕ → PictureInfo
plain_picture temporal_reference = record {
  temporal_reference = temporal_reference;
  kind = 1;
  vbv_delay = 65535;
  full_pel_forward = false;
  forward_f_code = 0;
  full_pel_backward = false;
  backward_f_code = 0;
}

-- a progressive frame without motion: no f_code is used, and each is 15
abbrev pub plain_picture_extension : PictureExtension
plain_picture_extension = record {
  f_code = (15 ∷ 15 ∷ []) ∷ (15 ∷ 15 ∷ []) ∷ [];
  dc_precision = 0;
  structure = 3;
  top_field_first = false;
  frame_pred_frame_dct = true;
  concealment = false;
  q_scale_type = false;
  intra_vlc_format = false;
  alternate_scan = false;
  repeat_first_field = false;
  chroma_420_type = true;
  progressive_frame = true;
  composite = None;
}
