-- What the account as it runs says of the pictures that were removed.
use Rattle.std.specs.Prelude.{◌≡◌, ℕ, ◌+◌, ◌*◌, ◌<◌, ◌≤◌, true, false, nat_eq, if◌then◌else◌, List, [], ◌∷◌, ◌++◌, length, map, max, Option, Some, None}
use Rattle.m2v_vbv.specs.Annex.{Start, Removal, removed, arrived}
use Rattle.m2v_vbv.specs.Account.{account_of}
use Rattle.m2v_vbv.specs.declared.fault.AccountFault.{AccountFault}
use Rattle.m2v_model.specs.Buffering.{StreamAccount, unsafe_from, amounts_from, greatest, exact_delay}
use Rattle.m2v_check.specs.declared.course.Next.{Next}
use Rattle.m2v_check.specs.declared.course.Full.{Full}
use Rattle.m2v_check.specs.declared.course.Course.{Course}
use Rattle.m2v_check.specs.Breaking.{first_some}
use Rattle.m2v_check.specs.Holding.{is_whole, course_after, course_under, over_by, cut_at}

abbrev pub removal_of : Next → Removal
removal_of n = record { bits = n.bits; units = n.units }

abbrev pub removals_of : List Next → List Removal
removals_of ts = map removal_of ts

-- a stream of so many bits
abbrev pub stream_of : Start → ℕ → StreamAccount
stream_of start total = record { start = start; total = total; removals = [] }

-- how the account of some removals fails first, in a stream of so many bits
abbrev pub first_fault : List AccountFault → Option AccountFault
first_fault [] = None
first_fault (f ∷ fs) = Some f

abbrev pub fault_of : Start → ℕ → List Next → Option AccountFault
fault_of start total ts = first_fault (unsafe_from (stream_of start total) [] (removals_of ts))

-- the most that is held
abbrev pub most_of : Start → ℕ → List Next → ℕ
most_of start total ts = greatest (map (λ (x : ℕ × ℕ). x.0) (amounts_from (stream_of start total) [] (removals_of ts)))

-- how many pictures, behind others, have another vbv_delay than the exact one
abbrev pub others_from : Start → List Removal → List Next → ℕ
others_from start before [] = 0
others_from start before (n ∷ ts) =
    (if nat_eq n.delay (exact_delay start before (removed before + n.code)) then 0 else 1) + others_from start (before ++ removal_of n ∷ []) ts

abbrev pub others_of : Start → List Next → ℕ
others_of start [] = 0
others_of start (n ∷ ts) = others_from start (removal_of n ∷ []) ts

-- the account above the buffer is one of this stream
abbrev pub IsFull : Start → List Removal → Option Full → Type 0
IsFull start rs None = Unit {0}
IsFull start rs (Some f) = (f.account.start ≡ start) × (1800 * start.buffer_bits < f.account.held) × (f.removed ≤ removed rs)

-- these pictures were removed, each of them whole
pub record Ran (start : Start) (ts : List Next) (c : Course) : Type 0 where
  pub account : c.account ≡ account_of start (removals_of ts)
  pub exactly : 1800 * removed (removals_of ts) ≤ arrived start (removals_of ts)
  pub pictures : c.pictures ≡ length ts
  pub removed_is : c.removed ≡ removed (removals_of ts)
  pub size : c.size ≡ 1800 * start.buffer_bits
  pub full : IsFull start (removals_of ts) c.full
  pub fault : (t : ℕ) → removed (removals_of ts) ≤ t → fault_of start t ts ≡ over_by c.full t
  pub delays : c.delays ≡ others_of start ts

-- what is known of one picture more: it is whole, and what it holds is kept; or it isn't, and the account fails there, if it
-- doesn't by what was held before
pub record RunsOn (start : Start) (ts : List Next) (c : Course) : Type 0 where
  pub whole : is_whole c ≡ true → Ran start (ts ++ c.next ∷ []) (course_after c)
  pub most : (t : ℕ) → removed (removals_of ts) + c.next.bits ≤ t → (most : ℕ) → most ≡ most_of start t ts
      → most_of start t (ts ++ c.next ∷ []) ≡ max most (cut_at t (record { held = c.account.held; removed = c.removed }))
  pub under : is_whole c ≡ false → (t : ℕ) → removed (removals_of ts) + c.next.bits ≤ t
      → (more : List Next) → fault_of start t ((ts ++ c.next ∷ []) ++ more) ≡ first_some (over_by c.full t) (course_under c).under
