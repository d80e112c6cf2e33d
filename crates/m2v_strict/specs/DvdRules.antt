-- The rules of a video DVD.
use Rattle.std.specs.Prelude.{ℕ, ◌+◌, ◌-◌, ◌*◌, min, ◌^◌, Bool, ◌&&◌, ◌||◌, not, nat_eq, nat_le, if◌then◌else◌, [], ◌++◌, Option, Some, None}
use Rattle.m2v_model.specs.declared.state.Sequence.{Sequence}
use Rattle.m2v_model.specs.States.{width_of, height_of, is_b}
use Rattle.m2v_model.specs.Lawful.{rate_of}
use Rattle.m2v_check.specs.declared.coded.CodedPicture.{CodedPicture}
use Rattle.m2v_check.specs.Running.{ends_frame}
use Rattle.m2v_strict.specs.declared.element.Element.TheVariants as elements
use Rattle.m2v_strict.specs.declared.runs.Runs.{Runs}
use Rattle.m2v_strict.specs.Remarks.{Remarks, remark, judge, looked_at, equal, at_most, within, unset}

-- ---- sequence headers

-- a size is told as 10,000 times its width, and its height added
abbrev pub size_of : Sequence → ℕ
size_of s = 10000 * width_of s + height_of s

-- 60: sizes of lines and their columns at 25 Hz (frame_rate_code 3), and else at 29.97 Hz
abbrev pub is_full_width : ℕ → Bool
is_full_width width = nat_eq width 720 || (nat_eq width 704 || nat_eq width 352)

abbrev pub full_height : ℕ → ℕ
full_height code = if nat_eq code 3 then 576 else 480

abbrev pub half_height : ℕ → ℕ
half_height code = if nat_eq code 3 then 288 else 240

abbrev pub is_disc_size : Sequence → Bool
is_disc_size s =
    let code = s.info.frame_rate_code in
    (is_full_width (width_of s) && nat_eq (height_of s) (full_height code))
    || (nat_eq (width_of s) 352 && nat_eq (height_of s) (half_height code))

unfoldable pub size_rule : Sequence → Remarks
size_rule s = judge (is_disc_size s) (remark 60 elements.Size (size_of s) (7200000 + full_height s.info.frame_rate_code))

-- 61 to 64: 25 or 29.97 Hz; 4:3 or 16:9; at most 9.8 Mbit/s; Main profile at Main level
unfoldable pub format_rule : Sequence → Remarks
format_rule s =
    within 61 elements.FrameRateCode s.info.frame_rate_code 3 4
    ++ within 62 elements.AspectRatioInformation s.info.aspect 2 3
    ++ at_most 63 elements.BitRate (rate_of s) 24500
    ++ equal 64 elements.ProfileAndLevelIndication s.extension.profile_and_level 72

-- warnings: 68, sequences of low delay and progressive ones; 71, 16:9 in lines of another width
unfoldable pub form_warning : Sequence → Remarks
form_warning s =
    unset 68 elements.LowDelay s.extension.low_delay
    ++ unset 68 elements.ProgressiveSequence s.extension.progressive_sequence

unfoldable pub wide_warning : Sequence → Remarks
wide_warning s =
    looked_at (not (nat_eq (width_of s) 720 || nat_eq (width_of s) 704))
    (judge (not (nat_eq s.info.aspect 3)) (remark 71 elements.AspectRatioInformation 3 2))

-- 70, a warning: size, rate and aspect are those of the first sequence of all, where it is another
unfoldable pub like_warning : Option Sequence → Sequence → Remarks
like_warning None s = []
like_warning (Some first) s =
    equal 70 elements.Size (size_of s) (size_of first)
    ++ equal 70 elements.FrameRateCode s.info.frame_rate_code first.info.frame_rate_code
    ++ equal 70 elements.AspectRatioInformation s.info.aspect first.info.aspect

abbrev pub dvd_remarks : Sequence → Remarks
dvd_remarks s = size_rule s ++ format_rule s ++ form_warning s ++ wide_warning s

-- ---- group headers

-- 67, a warning: a sequence header stands before it, behind the picture before
unfoldable pub headed_warning : Bool → Remarks
headed_warning headed = judge headed (remark 67 elements.SequenceHeader 0 1)

-- ---- pictures, one after another

-- more of something; no input has as many of anything as 64 bits can't count
abbrev pub more : ℕ → ℕ → ℕ
more n by = min (n + by) (2 ^ 64 - 1)

abbrev pub no_runs : Runs
no_runs = record { b_frames = 0; fields = 0 }

-- a group begins
abbrev pub runs_at_group : Runs → Runs
runs_at_group r = record r { fields = 0 }

-- how many B frames ended in a row, with a picture
unfoldable pub b_frames_with : ℕ → CodedPicture → ℕ
b_frames_with n p = if ends_frame p.note then (if is_b p.note.info.kind then more n 1 else 0) else n

-- a picture comes, which is shown for so many fields
abbrev pub runs_with : Runs → CodedPicture → ℕ → Runs
runs_with r p fields = record { b_frames = b_frames_with r.b_frames p; fields = more r.fields fields }

-- the most fields of a group: 36 at 29.97 Hz, and else 30
abbrev pub most_fields : ℕ → ℕ
most_fields code = if nat_eq code 4 then 36 else 30

-- 65: a group is shown for no more; told at the picture with which it passes that
unfoldable pub fields_rule : Runs → CodedPicture → ℕ → Remarks
fields_rule before p fields =
    let most = most_fields p.sequence.info.frame_rate_code in
    looked_at (nat_le before.fields most) (at_most 65 elements.GroupFields (more before.fields fields) most)

-- 66, a warning: at most two B frames in a row, told at each one more
unfoldable pub b_frames_warning : Runs → CodedPicture → Remarks
b_frames_warning before p =
    looked_at (ends_frame p.note && is_b p.note.info.kind) (at_most 66 elements.BFrames (b_frames_with before.b_frames p) 2)

-- 69, a warning: a sequence begins with a group header, and none of its pictures is dropped
unfoldable pub first_group_warning : CodedPicture → Remarks
first_group_warning p =
    judge (not (nat_eq p.number 0) || p.first_in_group) (remark 69 elements.FirstGroup 0 1)
    ++ unset 69 elements.Dropped p.note.dropped

-- by number, of a picture that is shown for so many fields, behind the ones before it
abbrev pub dvd_picture_remarks : Runs → CodedPicture → ℕ → Remarks
dvd_picture_remarks before p fields = fields_rule before p fields ++ b_frames_warning before p ++ first_group_warning p
