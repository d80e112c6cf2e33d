-- The rules of broadcasts: at 25 Hz (ETSI TS 101 154), and the American ones (A/53 Part 4).
use Rattle.std.specs.Prelude.{ℕ, ◌+◌, ◌*◌, Bool, ◌&&◌, ◌||◌, not, nat_eq, nat_le, nat_lt, if◌then◌else◌, ◌++◌}
use Rattle.m2v_model.specs.declared.state.Sequence.{Sequence}
use Rattle.m2v_model.specs.States.{width_of, height_of}
use Rattle.m2v_model.specs.Lawful.{level_in, rate_of, buffer_of}
use Rattle.m2v_strict.specs.declared.element.Element.TheVariants as elements
use Rattle.m2v_strict.specs.Remarks.{Remarks, remark, judge, looked_at, equal, at_most, within}
use Rattle.m2v_strict.specs.SequenceRules.{is_higher}
use Rattle.m2v_strict.specs.DvdRules.{size_of}

-- ---- at 25 Hz

-- 80: 25 Hz, at Main level
unfoldable pub dvb_rate_rule : Sequence → Remarks
dvb_rate_rule s = looked_at (not (is_higher (level_in s))) (equal 80 elements.FrameRateCode s.info.frame_rate_code 3)

-- 81: the sizes at Main level; 85, a warning: 704 by 576, which not every receiver has
abbrev pub is_dvb_size : ℕ → ℕ → Bool
is_dvb_size width height =
    ((nat_eq width 720 || (nat_eq width 544 || (nat_eq width 480 || nat_eq width 352))) && nat_eq height 576)
    || (nat_eq width 352 && nat_eq height 288)

abbrev pub is_doubtful_size : ℕ → ℕ → Bool
is_doubtful_size width height = nat_eq width 704 && nat_eq height 576

unfoldable pub dvb_size_rule : Sequence → Remarks
dvb_size_rule s =
    looked_at (not (is_higher (level_in s)))
    (judge (is_dvb_size (width_of s) (height_of s) || is_doubtful_size (width_of s) (height_of s)) (remark 81 elements.Size (size_of s) 7200576))

unfoldable pub dvb_size_warning : Sequence → Remarks
dvb_size_warning s =
    looked_at (not (is_higher (level_in s)))
    (judge (not (is_doubtful_size (width_of s) (height_of s))) (remark 85 elements.Size (size_of s) 7200576))

-- 82: 4:3, 16:9 or 2.21:1
unfoldable pub dvb_aspect_rule : Sequence → Remarks
dvb_aspect_rule s = within 82 elements.AspectRatioInformation s.info.aspect 2 4

-- 83, a warning: Main level or High level
unfoldable pub dvb_level_warning : Sequence → Remarks
dvb_level_warning s =
    let code = s.extension.profile_and_level in
    judge (nat_eq code 72 || nat_eq code 68) (remark 83 elements.ProfileAndLevelIndication code 72)

-- 84, a warning: above Main level 25 or 50 Hz
unfoldable pub dvb_rate_warning : Sequence → Remarks
dvb_rate_warning s =
    let code = s.info.frame_rate_code in
    looked_at (is_higher (level_in s)) (judge (nat_eq code 3 || nat_eq code 6) (remark 84 elements.FrameRateCode code 3))

-- by number
abbrev pub dvb_remarks : Sequence → Remarks
dvb_remarks s =
    dvb_rate_rule s ++ dvb_size_rule s ++ dvb_aspect_rule s ++ dvb_level_warning s ++ dvb_rate_warning s ++ dvb_size_warning s

-- ---- American ones

-- 90: the sizes; the one of as many lines is wanted, and else 704 by 480
unfoldable pub atsc_width : ℕ → ℕ
atsc_width height = if nat_eq height 1080 then 1920 else if nat_eq height 720 then 1280 else 704

abbrev pub is_small : ℕ → ℕ → Bool
is_small width height = nat_eq width 640 && nat_eq height 480

unfoldable pub is_atsc_size : ℕ → ℕ → Bool
is_atsc_size width height =
    ((nat_eq height 1080 || (nat_eq height 720 || nat_eq height 480)) && nat_eq width (atsc_width height)) || is_small width height

unfoldable pub atsc_height : ℕ → ℕ
atsc_height height = if nat_eq height 1080 || nat_eq height 720 then height else 480

unfoldable pub atsc_size_rule : Sequence → Remarks
atsc_size_rule s =
    let need = 10000 * atsc_width (height_of s) + atsc_height (height_of s) in
    judge (is_atsc_size (width_of s) (height_of s)) (remark 90 elements.Size (size_of s) need)

-- 91: square samples or 16:9 in 720 and 1080 lines; 4:3 or 16:9 in 704 columns; square samples or 4:3 in 640
unfoldable pub square_or_wide : ℕ → Remarks
square_or_wide aspect =
    judge (nat_eq aspect 1 || nat_eq aspect 3) (remark 91 elements.AspectRatioInformation aspect (if nat_lt aspect 3 then 1 else 3))

unfoldable pub aspect_at : ℕ → ℕ → ℕ → Remarks
aspect_at width height aspect =
    if not (nat_eq height 480) then square_or_wide aspect
    else if is_small width height then within 91 elements.AspectRatioInformation aspect 1 2
    else within 91 elements.AspectRatioInformation aspect 2 3

unfoldable pub atsc_aspect_rule : Sequence → Remarks
atsc_aspect_rule s =
    looked_at (is_atsc_size (width_of s) (height_of s)) (aspect_at (width_of s) (height_of s) s.info.aspect)

-- 92: frame rates: of interlaced sequences 29.97 and 30 Hz; of progressive ones 23.976, 24, 29.97 and 30 Hz, and under 1080 lines
-- 59.94 and 60 Hz; the nearest one is wanted, of two the lower one
unfoldable pub most_progressive : ℕ → ℕ
most_progressive height = if nat_lt height 1080 then 8 else 5

unfoldable pub nearest_rate : ℕ → ℕ → ℕ
nearest_rate most code =
    if nat_eq code 0 then 1 else if nat_lt most code then most else if nat_eq code 3 then 2 else if nat_eq code 6 then 5 else code

unfoldable pub progressive_rate_rule : Sequence → Remarks
progressive_rate_rule s =
    let code = s.info.frame_rate_code in
    let need = nearest_rate (most_progressive (height_of s)) code in
    equal 92 elements.FrameRateCode code need

unfoldable pub atsc_rate_rule : Sequence → Remarks
atsc_rate_rule s =
    if s.extension.progressive_sequence then progressive_rate_rule s
    else within 92 elements.FrameRateCode s.info.frame_rate_code 4 5

-- in 720 lines none is interlaced
unfoldable pub atsc_form_rule : Sequence → Remarks
atsc_form_rule s =
    looked_at (nat_eq (height_of s) 720)
    (judge s.extension.progressive_sequence (remark 92 elements.ProgressiveSequence 0 1))

-- 93 and 94: at most 19.4 Mbit/s, and a buffer of 488 times 16,384 bits
unfoldable pub atsc_buffer_rule : Sequence → Remarks
atsc_buffer_rule s =
    at_most 93 elements.BitRate (rate_of s) 48500 ++ at_most 94 elements.VbvBufferSize (buffer_of s) 488

-- by number
abbrev pub atsc_remarks : Sequence → Remarks
atsc_remarks s = atsc_size_rule s ++ atsc_aspect_rule s ++ atsc_rate_rule s ++ atsc_form_rule s ++ atsc_buffer_rule s

-- 95, a warning on a picture: at most half a second of delay, or a variable rate
unfoldable pub atsc_delay_warning : ℕ → Remarks
atsc_delay_warning delay =
    judge (nat_le delay 45000 || nat_eq delay 65535) (remark 95 elements.VbvDelay delay 45000)
