-- What the account of a buffer that goes on behind a failure means: Annex C's sums at constant rate, and the process of
-- C.3.2 and the kindest of all deliveries at variable rate. Amounts are in units of 1/1800 bit, times in units of
-- 1/720,000 s.
use Rattle.std.specs.Prelude.{◌≡◌, ℕ, zero, suc, ◌+◌, ◌-◌, ◌*◌, ◌<◌, ◌≤◌, ◌⊎◌, min, max, true, false, List, [], ◌∷◌, ◌++◌, map}
use Rattle.m2v_vbv.specs.Annex.{Start, Removal, Held}
use Rattle.m2v_vbv.specs.Account.{State}
use Rattle.m2v_vbv.specs.Buffer.{Inflow, Picture, Buffer, size_of, have_of, wait_of, told, next, left, run, tells, fails}
use Rattle.m2v_vbv.specs.declared.removed.Removed.{Removed}

-- no removal fails
abbrev pub NoneFails : List Removed → Type 0
NoneFails [] = Unit {0}
NoneFails (t ∷ ts) = (fails t ≡ false) × NoneFails ts

-- ---- constant rate

-- an account as a buffer at constant rate
abbrev pub as_buffer : ℕ → State → Buffer
as_buffer step a = record {
  inflow = record { k = a.start.k; buffer_bits = a.start.buffer_bits; step = step; varies = false };
  removals = a.removals;
  time = a.time;
  held = a.held;
}

-- in a stream of so many bits, a picture is whole in the buffer when it is removed behind these, and the buffer takes
-- what is held then
abbrev pub IsSafeAt : Start → ℕ → List Removal → Removal → Type 0
IsSafeAt start total before r =
    (1800 * r.bits ≤ Held start total before) × (Held start total before ≤ 1800 * start.buffer_bits)

-- it isn't, or it doesn't
abbrev pub IsUnsafeAt : Start → ℕ → List Removal → Removal → Type 0
IsUnsafeAt start total before r =
    (Held start total before < 1800 * r.bits) ⊎ (1800 * start.buffer_bits < Held start total before)

-- that holds of each of these
abbrev pub SafeIn : Start → ℕ → List Removal → Type 0
SafeIn start total rs =
    (before : List Removal) (r : Removal) (later : List Removal) → rs ≡ before ++ r ∷ later
    → IsSafeAt start total before r

-- the picture is the first that fails in a buffer, and the first that is unsafe by Annex C's sums
abbrev pub FailsFirst : Buffer → List Picture → Picture → ℕ → Type 0
FailsFirst b before p rest = NoneFails (tells b before rest) × (fails (told (run b before rest) p rest) ≡ true)

abbrev pub UnsafeFirst : Start → ℕ → List Removal → Removal → Type 0
UnsafeFirst start total before r = SafeIn start total before × IsUnsafeAt start total before r

-- ---- variable rate

-- what is held so many units later, where K comes in each, as long as there is room for it and so many bits are left of
-- the stream (C.3.2)
unfoldable pub filled : ℕ → ℕ → ℕ → ℕ → ℕ → ℕ
filled k room rest held zero = held
filled k room rest held (suc units) = min (filled k room rest held units + k) (min room (1800 * rest))

-- the process, from when a picture is due to when the next one is: the decoder waits, with room for the picture; the
-- picture is taken; and the buffer fills again
abbrev pub held_next : Inflow → Picture → ℕ → ℕ → ℕ → ℕ
held_next c p more held wait =
    let there = filled c.k (max (size_of c) (1800 * p.bits)) (p.bits + more) held wait in
    filled c.k (size_of c) more (there - 1800 * p.bits) p.units

-- where so many bits stand behind a picture, what the account holds when the next one is due is what the process does
abbrev pub FollowsProcess : Buffer → Picture → ℕ → Type 0
FollowsProcess b p more =
    let rest = p.bits + more in
    have_of (next b p rest) more ≡ held_next b.inflow p more (have_of b rest) (wait_of b p.bits rest)

-- A delivery, as what it holds when each picture is removed: no more than can have come till then, that is `most` at the
-- first of these and later what was left and K a unit; no more than the buffer takes; no more than is left of the stream.
-- How it delivers in between, and when the first picture is removed, is open.
abbrev pub Delivers : Inflow → ℕ → List Picture → ℕ → List ℕ → Type 0
Delivers c most [] behind os = Unit {0}
Delivers c most (p ∷ ps) behind [] = ⊥
Delivers c most (p ∷ ps) behind (o ∷ os) =
    (o ≤ most) × (o ≤ size_of c) × (o ≤ 1800 * left (p ∷ ps) behind)
    × Delivers c (o - 1800 * p.bits + c.k * p.units) ps behind os

-- it has each picture in time
abbrev pub HasInTime : List Picture → List ℕ → Type 0
HasInTime [] os = Unit {0}
HasInTime (p ∷ ps) [] = ⊥
HasInTime (p ∷ ps) (o ∷ os) = (1800 * p.bits ≤ o) × HasInTime ps os

-- it holds no more than the account does, up to the first removal that fails in the account
abbrev pub HoldsNoMore : List ℕ → List Removed → Type 0
HoldsNoMore [] ts = Unit {0}
HoldsNoMore (o ∷ os) [] = Unit {0}
HoldsNoMore (o ∷ os) (t ∷ ts) = (o ≤ t.have) × (fails t ≡ false → HoldsNoMore os ts)

-- what the account holds when each picture is due
abbrev pub amounts_of : List Removed → List ℕ
amounts_of ts = map (λ (t : Removed). t.have) ts
