-- The stricter rules on a sequence header and its extension, and the warnings (clauses 6.1.1.6, 6.3.3, 6.3.5, 6.3.11 and 8).
use Rattle.std.specs.Prelude.{ℕ, ◌*◌, ◌%◌, Bool, true, false, nat_eq, nat_le, not, if◌then◌else◌, List, [], ◌++◌, slice_index, Option, Some, None}
use Rattle.m2v_set.specs.declared.settings.Level.TheVariants.{Main, High1440, High}
use Rattle.m2v_set.specs.declared.settings.Level.{Level}
use Rattle.m2v_set.specs.Numbers.{frame_time}
use Rattle.m2v_model.specs.declared.state.Sequence.{Sequence}
use Rattle.m2v_model.specs.States.{width_of, height_of, columns_of, rows_of}
use Rattle.m2v_model.specs.Lawful.{level_in, limits_in, rate_of, buffer_of}
use Rattle.m2v_strict.specs.declared.element.Element.TheVariants as elements
use Rattle.m2v_strict.specs.declared.rule_set.RuleSet.{RuleSet}
use Rattle.m2v_strict.specs.declared.rule_set.RuleSet.TheVariants as sets
use Rattle.m2v_strict.specs.Remarks.{Remarks, remark, judge, looked_at, equal, at_most, within, unset, same}

-- ---- rules

-- 16: the luma samples of whole macroblocks in a second are within the level, looked at where those of the picture are (rule 5)
abbrev pub luma_bound : Sequence → ℕ
luma_bound s = (limits_in s).luma * frame_time s.info.frame_rate_code

abbrev pub keeps_luma_rate : Sequence → Bool
keeps_luma_rate s = nat_le (720000 * width_of s * height_of s) (luma_bound s)

unfoldable pub coded_luma_rule : Sequence → Remarks
coded_luma_rule s =
    looked_at (keeps_luma_rate s)
    (at_most 16 elements.CodedLumaRate (720000 * (16 * columns_of s) * (16 * rows_of s)) (luma_bound s))

-- 17: the aspect ratio is one of table 6-3
unfoldable pub aspect_rule : Sequence → Remarks
aspect_rule s = within 17 elements.AspectRatioInformation s.info.aspect 1 4

-- 18: of MPEG-2 no sequence is one of constrained parameters
unfoldable pub constrained_rule : Sequence → Remarks
constrained_rule s = unset 18 elements.ConstrainedParametersFlag s.info.constrained

-- 19: the first number of a matrix of intra blocks is 8
unfoldable pub first_number_rule : Option (List ℕ) → Remarks
first_number_rule None = []
first_number_rule (Some m) = equal 19 elements.IntraQuantiserMatrix (slice_index m 0) 8

-- 21: a later sequence header says what the first one does; sizes, progressive_sequence and chroma_format a decoder compares
unfoldable pub header_rule : Sequence → Sequence → Remarks
header_rule first s =
    equal 21 elements.AspectRatioInformation s.info.aspect first.info.aspect
    ++ equal 21 elements.FrameRateCode s.info.frame_rate_code first.info.frame_rate_code
    ++ equal 21 elements.BitRate (rate_of s) (rate_of first)
    ++ equal 21 elements.VbvBufferSize (buffer_of s) (buffer_of first)
    ++ same 21 elements.ConstrainedParametersFlag s.info.constrained first.info.constrained

unfoldable pub extension_rule : Sequence → Sequence → Remarks
extension_rule first s =
    equal 21 elements.ProfileAndLevelIndication s.extension.profile_and_level first.extension.profile_and_level
    ++ same 21 elements.LowDelay s.extension.low_delay first.extension.low_delay
    ++ equal 21 elements.FrameRateExtensionN s.extension.rate_n first.extension.rate_n
    ++ equal 21 elements.FrameRateExtensionD s.extension.rate_d first.extension.rate_d

-- ---- warnings

-- 50: the highest code of the aspect ratio is none that the profile's table has; broadcasts at 25 Hz may have it
unfoldable pub is_broadcast : RuleSet → Bool
is_broadcast sets.Main = false
is_broadcast sets.Dvd = false
is_broadcast sets.Dvb = true
is_broadcast sets.Atsc = false

unfoldable pub aspect_warning : RuleSet → Sequence → Remarks
aspect_warning rules s = looked_at (not (is_broadcast rules)) (judge (not (nat_eq s.info.aspect 4)) (remark 50 elements.AspectRatioInformation 4 3))

-- 51: an odd size, and in an interlaced sequence a height that is no multiple of 4, tells what is over
unfoldable pub size_warning : Sequence → Remarks
size_warning s =
    equal 51 elements.Width (width_of s % 2) 0
    ++ equal 51 elements.Height (height_of s % (if s.extension.progressive_sequence then 2 else 4)) 0

-- 52: at the levels above Main at most 1088 lines
unfoldable pub is_higher : Level → Bool
is_higher Main = false
is_higher High1440 = true
is_higher High = true

unfoldable pub height_warning : Sequence → Remarks
height_warning s = looked_at (is_higher (level_in s)) (at_most 52 elements.Height (height_of s) 1088)

-- ---- the whole

-- by number: what a sequence header says of its level and of itself
abbrev pub level_remarks : Sequence → Remarks
level_remarks s = coded_luma_rule s ++ aspect_rule s ++ constrained_rule s ++ first_number_rule s.info.load_intra

-- then 21 (`header_rule`, `extension_rule`), and the warnings
abbrev pub sequence_warnings : RuleSet → Sequence → Remarks
sequence_warnings rules s = aspect_warning rules s ++ size_warning s ++ height_warning s
