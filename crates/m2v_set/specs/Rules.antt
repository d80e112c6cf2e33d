-- The published test: conditions in order, under the number of their rule.
use Rattle.std.specs.Prelude.{ℕ, ◌≡◌, ◌+◌, ◌-◌, ◌*◌, ◌%◌, List, [], ◌∷◌, ◌++◌, Bool, true, false, nat_le, nat_eq, if◌then◌else◌, Result, Ok, Err}
use Rattle.m2v_set.specs.declared.settings.Scan.{Scan}
use Rattle.m2v_set.specs.declared.settings.Scan.TheVariants.{Progressive, Frames, Fields}
use Rattle.m2v_set.specs.declared.settings.Level.TheVariants.{Main}
use Rattle.m2v_set.specs.declared.settings.Planning.{Planning}
use Rattle.m2v_set.specs.declared.settings.Planning.TheVariants.{Weights, Even}
use Rattle.m2v_set.specs.declared.settings.Settings.{Settings}
use Rattle.m2v_set.specs.declared.unfit.Unfit.{Unfit}
use Rattle.m2v_set.specs.declared.limits.Limits.{Limits}
use Rattle.m2v_set.specs.Numbers.{frame_time, arrival_of, longest_of, buffer_bits, least_of, delay_of, limits_of}

-- a condition: whether it holds, and what is told where it doesn't
pub record Condition : Type 0 where
  pub rule : ℕ
  pub have : ℕ
  pub need : ℕ
  pub holds : Bool

abbrev pub at_least : ℕ → ℕ → ℕ → Condition
at_least rule have need = record { rule = rule; have = have; need = need; holds = nat_le need have }

abbrev pub at_most : ℕ → ℕ → ℕ → Condition
at_most rule have need = record { rule = rule; have = have; need = need; holds = nat_le have need }

abbrev pub is_zero : ℕ → ℕ → Condition
is_zero rule have = record { rule = rule; have = have; need = 0; holds = nat_eq have 0 }

-- a condition that fails is told by its rule and its two numbers
unfoldable pub judge : Condition → Result (Unit {0}) Unfit
judge c = if c.holds then Ok tt else Err (record { rule = c.rule; have = c.have; need = c.need })

-- the second judgement counts where the first passed
unfoldable pub and_then : Result (Unit {0}) Unfit → Result (Unit {0}) Unfit → Result (Unit {0}) Unfit
and_then (Ok passed) next = next
and_then (Err unfit) next = Err unfit

-- the first condition that fails
unfoldable pub judged : List Condition → Result (Unit {0}) Unfit
judged [] = Ok tt
judged (c ∷ cs) = and_then (judge c) (judged cs)

unfoldable pub is_progressive : Scan → Bool
is_progressive Progressive = true
is_progressive Frames = false
is_progressive Fields = false

-- bits are shared by the source
unfoldable pub is_even : Planning → Bool
is_even Weights = false
is_even Even = true

unfoldable pub scan_number : Scan → ℕ
scan_number Progressive = 0
scan_number Frames = 1
scan_number Fields = 2

-- a frame can be split into two fields of whole chroma lines unless it is progressive
abbrev pub line_step : Scan → ℕ
line_step scan = if is_progressive scan then 2 else 4

-- rule 1, first part: size, rate code and luma rate
unfoldable pub frame_rules : Limits → Scan → ℕ → ℕ → ℕ → List Condition
frame_rules limit scan width height code =
    at_least 1 width 2
    ∷ at_most 1 width limit.width
    ∷ is_zero 1 (width % 2)
    ∷ at_least 1 height (line_step scan)
    ∷ at_most 1 height limit.height
    ∷ is_zero 1 (height % line_step scan)
    ∷ at_least 1 code 1
    ∷ at_most 1 code limit.codes
    ∷ at_most 1 (720000 * width * height) (limit.luma * frame_time code)
    ∷ []

-- rule 1, second part: rate and buffer
unfoldable pub channel_rules : Limits → Settings → List Condition
channel_rules limit s =
    at_least 1 s.bits 1
    ∷ at_most 1 s.bits limit.bits
    ∷ at_least 1 s.buffer 1
    ∷ at_most 1 s.buffer limit.buffer
    ∷ []

-- rule 2: an emergency picture arrives in time; rule 3: the buffer takes what arrives at most, and an emergency picture;
-- rule 4: it is full before a delay passes its 16 bits
unfoldable pub buffer_rules : Settings → List Condition
buffer_rules s =
    at_least 2 (arrival_of s) (1800 * least_of s)
    ∷ at_least 3 (1800 * buffer_bits s) (longest_of s + 14400)
    ∷ at_least 3 (1800 * (buffer_bits s - 8)) (1800 * least_of s)
    ∷ at_most 4 (1800 * buffer_bits s) (8 * s.bits * 65534)
    ∷ []

-- rule 5: before the first picture is due, an emergency picture has arrived, and no more than the buffer takes
unfoldable pub delay_rules : Settings → List Condition
delay_rules s =
    at_least 5 (8 * s.bits * delay_of s) (1800 * (least_of s + 272))
    ∷ at_most 5 (8 * s.bits * delay_of s + 489600) (1800 * buffer_bits s)
    ∷ []

-- rule 6, first part: what is chosen freely
unfoldable pub choice_rules : Settings → List Condition
choice_rules s =
    at_least 6 s.group 1
    ∷ at_most 6 s.group 60
    ∷ at_least 6 s.step 1
    ∷ at_most 6 s.step 4
    ∷ is_zero 6 (s.group % s.step)
    ∷ at_most 6 s.search 15
    ∷ at_least 6 s.aspect 1
    ∷ at_most 6 s.aspect 4
    ∷ at_least 6 s.workers 1
    ∷ at_most 6 s.workers 16
    ∷ []

-- rule 6, second part: pulldown is for scan frames at 30000/1001 or 30 frames a second
unfoldable pub pulldown_rules : Settings → List Condition
pulldown_rules s =
    at_least 6 (scan_number s.scan) 1
    ∷ at_most 6 (scan_number s.scan) 1
    ∷ at_least 6 s.rate_code 4
    ∷ at_most 6 s.rate_code 5
    ∷ []

-- the test of settings
unfoldable pub rules : Settings → List Condition
rules s =
    frame_rules (limits_of s.level) s.scan s.width s.height s.rate_code
    ++ channel_rules (limits_of s.level) s
    ++ buffer_rules s
    ++ delay_rules s
    ++ choice_rules s
    ++ (if s.pulldown then pulldown_rules s else [])

-- the settings pass
abbrev pub Passes : Settings → Type 0
Passes s = judged (rules s) ≡ Ok tt

-- the first failing condition, with rule, have and need
abbrev pub FirstUnfit : Settings → Unfit → Type 0
FirstUnfit s u = judged (rules s) ≡ Err u

-- rule 7: the quantiser of the flat profile
unfoldable pub quantiser_rules : ℕ → List Condition
quantiser_rules code = at_least 7 code 1 ∷ at_most 7 code 31 ∷ []

-- the test of the flat profile, progressive at main level: rule 1 up to the luma rate, and rule 7
unfoldable pub flat_rules : ℕ → ℕ → ℕ → ℕ → List Condition
flat_rules width height code quantiser =
    frame_rules (limits_of Main) Progressive width height code
    ++ quantiser_rules quantiser

abbrev pub FlatPasses : ℕ → ℕ → ℕ → ℕ → Type 0
FlatPasses width height code quantiser = judged (flat_rules width height code quantiser) ≡ Ok tt

abbrev pub FlatUnfit : ℕ → ℕ → ℕ → ℕ → Unfit → Type 0
FlatUnfit width height code quantiser u = judged (flat_rules width height code quantiser) ≡ Err u
