-- The account as it runs, picture by picture.
use Rattle.std.specs.Prelude.{◌≡◌, ℕ, ◌+◌, ◌-◌, ◌*◌, ◌/◌, ◌<◌, ◌≤◌, ◌^◌, max, min, Bool, not, ◌&&◌, ◌||◌, nat_eq, nat_le, nat_lt, is_some, if◌then◌else◌, List, [], ◌∷◌, Option, Some, None}
use Rattle.m2v_vbv.specs.Account.{State, after, arriving}
use Rattle.m2v_vbv.specs.declared.fault.AccountFault.{AccountFault}
use Rattle.m2v_vbv.specs.declared.fault.AccountFault.TheVariants.{Under, Over}
use Rattle.m2v_check.specs.declared.amounts.Amount.{Amount}
use Rattle.m2v_check.specs.declared.course.Next.{Next}
use Rattle.m2v_check.specs.declared.course.Full.{Full}
use Rattle.m2v_check.specs.declared.course.Course.{Course}
use Rattle.m2v_set.specs.Numbers.{field_time, frame_time}
use Rattle.m2v_model.specs.States.{is_frame, is_b}
use Rattle.m2v_model.specs.Lawful.{Numbered}
use Rattle.m2v_model.specs.Buffering.{repeats, time_shown}
use Rattle.m2v_check.specs.declared.times.Times.{Times}
use Rattle.m2v_check.specs.Breaking.{first_some}

-- the exact delay of a picture whose start code ends so many bits behind those that were removed
abbrev pub exact_at : State → ℕ → ℕ → ℕ
exact_at a removed code = arriving a (removed + code) / (8 * a.start.k)

-- the picture that is removed next is whole in the buffer
abbrev pub is_whole : Course → Bool
is_whole c = nat_le (1800 * c.next.bits) c.account.held

abbrev pub delays_with : Course → ℕ
delays_with c = if nat_eq c.pictures 0 || nat_eq c.next.delay (exact_at c.account c.removed c.next.code) then c.delays else c.delays + 1

-- the first account above the buffer
abbrev pub full_with : Course → Option Full
full_with c = first_some c.full (if nat_lt c.size c.account.held then Some (record { account = c.account; removed = c.removed }) else None)

abbrev pub course_after : Course → Course
course_after c = record c {
  account = after c.account c.next.bits c.next.units;
  pictures = c.pictures + 1;
  removed = c.removed + c.next.bits;
  delays = delays_with c;
  full = full_with c;
}

abbrev pub course_under : Course → Course
course_under c = record c { under = Some (Under c.account.removals c.account.held (1800 * c.next.bits)) }

-- the next picture is removed, unless one wasn't whole before
abbrev pub removed_by : Option AccountFault → Course → Course
removed_by (Some f) c = c
removed_by None c = if is_whole c then course_after c else course_under c

abbrev pub amount_by : Option AccountFault → Course → Option Amount
amount_by (Some f) c = None
amount_by None c = if is_whole c then Some (record { held = c.account.held; removed = c.removed }) else None

-- what arrived up to the removal of the next picture is held or was removed
abbrev pub IsExact : State → ℕ → Type 0
IsExact a removed = a.held + 1800 * removed ≡ 1800 * a.start.s + (8 * a.start.k * a.start.delay + a.start.k * a.time)

pub record IsSound (c : Course) : Type 0 where
  pub exact : c.under ≡ None → IsExact c.account c.removed
  pub begun : c.under ≡ None → c.account.start.s ≤ c.removed + c.next.code
  pub code : c.next.code ≤ c.next.bits
  pub units : c.next.units < 2 ^ 20
  pub bits : c.removed + c.next.bits ≤ c.total
  pub most : c.total ≤ 2 ^ 40
  pub few : c.account.removals ≤ c.pictures
  pub least : 32 ≤ c.next.code
  pub counted : 32 * c.pictures ≤ c.removed
  pub delays : c.delays ≤ c.pictures

-- that, and then the next picture
abbrev pub stepped : Course → Next → Course
stepped c next = record (removed_by c.under c) { next = next; total = c.total + next.bits }

-- more bits of the next picture were read
abbrev pub with_more : Course → ℕ → Course
with_more c bits = record c { total = c.total + bits; next = record c.next { bits = c.next.bits + bits } }

-- a picture of which so many bits were read
pub record IsNext (next : Next) : Type 0 where
  pub least : 32 ≤ next.code
  pub code : next.code ≤ next.bits
  pub units : next.units < 2 ^ 20

-- ---- the most that is held

-- what is held in a stream of so many bits
abbrev pub cut_at : ℕ → Amount → ℕ
cut_at total a = min a.held (1800 * (total - a.removed))

-- the most of these, and of what is known
abbrev pub most_with : ℕ → ℕ → List Amount → ℕ
most_with total most [] = most
most_with total most (a ∷ more) = most_with total (max most (cut_at total a)) more

-- the first of a list
abbrev pub IsFirst : Amount → List Amount → Type 0
IsFirst a [] = ⊥
IsFirst a (b ∷ bs) = b ≡ a

-- how the account fails by what is held, where it does, in a stream of so many bits
abbrev pub over_by : Option Full → ℕ → Option AccountFault
over_by None total = None
over_by (Some f) total =
    let have = min f.account.held (1800 * (total - f.removed)) in
    if nat_lt (1800 * f.account.start.buffer_bits) have then Some (Over f.account.removals have (1800 * f.account.start.buffer_bits)) else None

-- the account fails by what is held, however long the stream is
abbrev pub is_over : Course → Bool
is_over c = is_some (over_by c.full c.total)

-- ---- times

-- the time behind a picture
abbrev pub time_behind : Times → Numbered → ℕ
time_behind t n =
    let anchor = not (is_b n.picture.info.kind) in
    if is_frame n.picture.extension then time_shown (if anchor && not t.low_delay then t.repeats else repeats n) t.code
    else if anchor && n.picture.ends_frame && t.repeats then frame_time t.code else field_time t.code

abbrev pub repeats_behind : Times → Numbered → Bool
repeats_behind t n = if not (is_b n.picture.info.kind) && n.picture.ends_frame then repeats n else t.repeats
