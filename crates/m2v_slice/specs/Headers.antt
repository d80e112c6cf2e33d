-- What stands before the slices of the encoder's pictures: the field values of its headers (clauses 6.2.2 and 6.2.3), their
-- text and its length, and the context in which the slices of a picture are coded.
use Rattle.std.specs.Prelude.{ℕ, ◌+◌, ◌-◌, ◌*◌, ◌/◌, ◌%◌, ◌<◌, ◌≤◌, Bool, true, false, not, ◌&&◌, ◌||◌, nat_eq, cond, if◌then◌else◌, List, [], ◌∷◌, None}
use Rattle.m2v_bits.specs.Bits.{unit, ◌⧺◌}
use Rattle.m2v_quant.specs.Matrices.{default_matrix}
use Rattle.m2v_head.specs.declared.sequence.SequenceInfo.{SequenceInfo}
use Rattle.m2v_head.specs.declared.sequence.SequenceExtension.{SequenceExtension}
use Rattle.m2v_head.specs.declared.group.GroupInfo.{GroupInfo}
use Rattle.m2v_head.specs.declared.picture.PictureInfo.{PictureInfo}
use Rattle.m2v_head.specs.declared.picture.PictureExtension.{PictureExtension}
use Rattle.m2v_head.specs.Texts.{sequence_text, sequence_extension_text, group_text, picture_text, picture_extension_text}
use Rattle.m2v_macroblock.specs.m2v_macro.declared.values.PictureContext.{PictureContext}
use Rattle.m2v_set.specs.declared.settings.Settings.{Settings}
use Rattle.m2v_set.specs.declared.settings.Level.{Level}
use Rattle.m2v_set.specs.declared.settings.Level.TheVariants.{Main, High1440, High}
use Rattle.m2v_set.specs.Numbers.{mb_width_of}
use Rattle.m2v_set.specs.Rules.{is_progressive}
use Rattle.m2v_order.specs.declared.jobs.PictureJob.{PictureJob}
use Rattle.m2v_order.specs.Times.{is_top_first, repeats}
use Rattle.m2v_choose.specs.Own.{own_f_codes}

-- ---- the sequence (clauses 6.3.3 and 6.3.5)

-- profile_and_level_indication (tables 8-2 and 8-3), always of the main profile
unfoldable pub profile_of : Level → ℕ
profile_of Main = 72
profile_of High1440 = 70
profile_of High = 68

unfoldable pub sequence_of : Settings → SequenceInfo
sequence_of s = record {
  horizontal_size = s.width % 4096;
  vertical_size = s.height % 4096;
  aspect = s.aspect;
  frame_rate_code = s.rate_code;
  bit_rate = s.bits % 262144;
  vbv_buffer_size = s.buffer % 1024;
  constrained = false;
  load_intra = None;
  load_non_intra = None;
}

-- each extension has the higher bits of its number
unfoldable pub sequence_extension_of : Settings → SequenceExtension
sequence_extension_of s = record {
  profile_and_level = profile_of s.level;
  progressive_sequence = is_progressive s.scan;
  chroma_format = 1;
  horizontal_ext = s.width / 4096;
  vertical_ext = s.height / 4096;
  bit_rate_ext = s.bits / 262144;
  vbv_ext = s.buffer / 1024;
  low_delay = false;
  rate_n = 0;
  rate_d = 0;
}

-- ---- the group of pictures (clause 6.3.8)

-- the frames in a second of the time code, by frame_rate_code
unfoldable pub frames_in_second : ℕ → ℕ
frames_in_second code =
    if nat_eq code 1 || nat_eq code 2 then 24
    else if nat_eq code 3 then 25
    else if nat_eq code 4 || nat_eq code 5 then 30
    else if nat_eq code 6 then 50 else 60

-- the number of a frame in the time code: with pulldown five frames are shown in the time of four
unfoldable pub shown_number : Settings → ℕ → ℕ
shown_number s display = if s.pulldown then (2 * display + (display + 1) / 2) / 2 else display

-- a group whose first frame in display order has this number; closed are the first group, all where that is set, and
-- those without B frames
unfoldable pub group_from : Settings → ℕ → GroupInfo
group_from s display =
    let n = shown_number s display in
    let second = n / frames_in_second s.rate_code in
    record {
      «drop» = false;
      hours = second / 3600 % 24;
      minutes = second / 60 % 60;
      seconds = second % 60;
      pictures = n % frames_in_second s.rate_code;
      closed_gop = nat_eq display 0 || (s.closed || nat_eq s.step 1);
      broken_link = false;
    }

-- ---- the picture (clauses 6.3.9 and 6.3.10)

-- temporal_reference counts the frames of the group in display order; the f_codes of other times are 7 where the picture
-- has the direction
unfoldable pub picture_of : PictureJob → ℕ → PictureInfo
picture_of job delay = record {
  temporal_reference = job.frame;
  kind = job.kind;
  vbv_delay = delay;
  full_pel_forward = false;
  forward_f_code = cond (nat_eq job.kind 1) 0 7;
  full_pel_backward = false;
  backward_f_code = cond (nat_eq job.kind 3) 7 0;
}

-- frames that were shot as frames: those of a progressive sequence, and with pulldown
unfoldable pub is_film : Settings → Bool
is_film s = is_progressive s.scan || s.pulldown

unfoldable pub extension_of : Settings → PictureJob → PictureExtension
extension_of s job = record {
  f_code = own_f_codes (nat_eq job.kind 2 || nat_eq job.kind 3) ∷ own_f_codes (nat_eq job.kind 3) ∷ [];
  dc_precision = 0;
  structure = job.structure;
  top_field_first = is_top_first s job.display;
  frame_pred_frame_dct = is_film s;
  concealment = false;
  q_scale_type = false;
  intra_vlc_format = false;
  alternate_scan = not (is_film s);
  repeat_first_field = repeats s job.display;
  chroma_420_type = is_film s;
  progressive_frame = is_film s;
  composite = None;
}

-- the context of its slices; of two field pictures the bottom one is the second
unfoldable pub context_of : Settings → PictureJob → PictureContext
context_of s job = record {
  kind = job.kind;
  second = nat_eq job.structure 2;
  columns = mb_width_of s;
  extension = extension_of s job;
  intra = default_matrix true;
  non_intra = default_matrix false;
}

-- ---- the text

-- a picture that begins a group: the first of an I frame
unfoldable pub begins_group : PictureJob → Bool
begins_group job = nat_eq job.kind 1 && not (nat_eq job.structure 2)

-- the headers of a group whose first frame in display order has this number
unfoldable pub group_units : Settings → ℕ → List Bool
group_units s first =
    unit 0xB3 (sequence_text (sequence_of s))
    ⧺ unit 0xB5 (sequence_extension_text (sequence_extension_of s))
    ⧺ unit 0xB8 (group_text (group_from s first))

unfoldable pub picture_units : Settings → PictureJob → ℕ → List Bool
picture_units s job delay =
    unit 0x00 (picture_text (picture_of job delay))
    ⧺ unit 0xB5 (picture_extension_text (extension_of s job))

-- all that stands before the slices of a picture
unfoldable pub header_units : Settings → PictureJob → ℕ → List Bool
header_units s job delay =
    cond (begins_group job) (group_units s (job.display - job.frame)) []
    ⧺ picture_units s job delay

-- how many bits that is, and how many of them go up to and with the picture start code
unfoldable pub header_bits : PictureJob → ℕ
header_bits job = if begins_group job then 376 else if nat_eq job.kind 1 then 136 else 144

unfoldable pub bits_to_code : PictureJob → ℕ
bits_to_code job = if begins_group job then 272 else 32

-- ---- conditions

-- a picture of a group: its type and its structure are those that there are, and its frame is one of 63
pub record IsJob (job : PictureJob) : Type 0 where
  pub kind : (1 ≤ job.kind) × (job.kind ≤ 3)
  pub structure : (1 ≤ job.structure) × (job.structure ≤ 3)
  pub frame : job.frame < 63
  pub display : job.frame ≤ job.display
