-- What settings that pass keep to, as facts on their numbers.
use Rattle.std.specs.Prelude.{◌≡◌, ◌≤◌, ◌+◌, ◌-◌, ◌*◌, ◌%◌, true}
use Rattle.m2v_set.specs.declared.settings.Scan.TheVariants.{Frames}
use Rattle.m2v_set.specs.declared.settings.Settings.{Settings}
use Rattle.m2v_set.specs.Numbers.{frame_time, limits_of, arrival_of, longest_of, buffer_bits, least_of, delay_of}
use Rattle.m2v_set.specs.Rules.{line_step}

-- size and rates; 1920, 1152, 8, 200000 and 597 bound every level
pub record InSize (s : Settings) : Type 0 where
  pub wide : 2 ≤ s.width
  pub width : s.width ≤ 1920
  pub even : s.width % 2 ≡ 0
  pub tall : line_step s.scan ≤ s.height
  pub height : s.height ≤ 1152
  pub lines : s.height % line_step s.scan ≡ 0
  pub code : 1 ≤ s.rate_code
  pub codes : s.rate_code ≤ 8
  pub bit : 1 ≤ s.bits
  pub bits : s.bits ≤ 200000
  pub buffered : 1 ≤ s.buffer
  pub buffer : s.buffer ≤ 597

-- the bounds of the level (tables 8-10 to 8-14)
pub record InLevel (s : Settings) : Type 0 where
  pub width : s.width ≤ (limits_of s.level).width
  pub height : s.height ≤ (limits_of s.level).height
  pub codes : s.rate_code ≤ (limits_of s.level).codes
  pub luma : 720000 * s.width * s.height ≤ (limits_of s.level).luma * frame_time s.rate_code
  pub bits : s.bits ≤ (limits_of s.level).bits
  pub buffer : s.buffer ≤ (limits_of s.level).buffer

-- the buffer's account
pub record InTime (s : Settings) : Type 0 where
  pub arrives : 1800 * least_of s ≤ arrival_of s
  pub takes : longest_of s + 14400 ≤ 1800 * buffer_bits s
  pub holds : 1800 * least_of s ≤ 1800 * (buffer_bits s - 8)
  pub fills : 1800 * buffer_bits s ≤ 8 * s.bits * 65534
  pub starts : 1800 * (least_of s + 272) ≤ 8 * s.bits * delay_of s
  pub waits : 8 * s.bits * delay_of s + 489600 ≤ 1800 * buffer_bits s

-- what is chosen freely
pub record InChoice (s : Settings) : Type 0 where
  pub grouped : 1 ≤ s.group
  pub group : s.group ≤ 60
  pub stepped : 1 ≤ s.step
  pub step : s.step ≤ 4
  pub whole : s.group % s.step ≡ 0
  pub search : s.search ≤ 15
  pub shaped : 1 ≤ s.aspect
  pub aspect : s.aspect ≤ 4
  pub working : 1 ≤ s.workers
  pub workers : s.workers ≤ 16

-- pulldown is for scan frames at 30000/1001 or 30 frames a second
pub record InPulldown (s : Settings) : Type 0 where
  pub scan : s.pulldown ≡ true → s.scan ≡ Frames
  pub code : s.pulldown ≡ true → 4 ≤ s.rate_code
  pub codes : s.pulldown ≡ true → s.rate_code ≤ 5

pub record Bounds (s : Settings) : Type 0 where
  pub size : InSize s
  pub level : InLevel s
  pub time : InTime s
  pub choice : InChoice s
  pub pulldown : InPulldown s
