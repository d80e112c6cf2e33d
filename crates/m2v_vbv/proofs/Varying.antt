-- The account at variable rate: the process of C.3.2, and the kindest delivery.
use Rattle.std.proofs.Common.{◌≡◌, ℕ, zero, suc, ◌+◌, ◌-◌, ◌*◌, ◌<◌, ◌≤◌, min, max, Bool, true, false, List, [], ◌∷◌, refl, sym, ◌∙◌, arith}
use Rattle.std.proofs.Math.Nat.{mul-suc}
use Rattle.std.proofs.lemmas.Bool.{ltb-false, ltb-true, le-ltb, or_parts, or_from}
use Rattle.m2v_vbv.specs.Buffer.{Inflow, Picture, Buffer, size_of, have_of, is_over, is_under, wait_of, told, next, left, tells}
use Rattle.m2v_vbv.specs.Deliveries.{NoneFails, filled, FollowsProcess, Delivers, HasInTime, HoldsNoMore, amounts_of}
use Rattle.m2v_vbv.proofs.Fine.{left_cons, wait_fine, full_fine}

abbrev inflow : ℕ → ℕ → ℕ → Inflow
inflow k size step = record { k = k; buffer_bits = size; step = step; varies = true }

abbrev varying : ℕ → ℕ → ℕ → ℕ → ℕ → ℕ → Buffer
varying k size step n t h = record { inflow = inflow k size step; removals = n; time = t; held = h }

never_over : (k size step n t h rest : ℕ) → is_over (varying k size step n t h) rest ≡ false
never_over k size step n t h rest = le-ltb (1800 * size) _ (omega arith)

-- ---- the process

closed : (k room rest held units : ℕ) → held ≤ room → held ≤ 1800 * rest
    → filled k room rest held units ≡ min (held + k * units) (min room (1800 * rest))
unfolding filled
closed k room rest held zero a b = omega arith
closed k room rest held (suc x) a b = rw (closed k room rest held x a b) (omega (arith, mul-suc k x))

fine_amounts : (h size bits more arriving : ℕ) → 1800 * bits ≤ min (min h size) (1800 * (bits + more))
    → min (min (min h size - 1800 * bits + arriving) size) (1800 * more)
    ≡ min (min (min h size) (1800 * (bits + more)) - 1800 * bits + arriving) (min size (1800 * more))
fine_amounts h size bits more arriving le = omega arith

late_amounts : (h size bits more waited arriving : ℕ) → min (min h size) (1800 * (bits + more)) < 1800 * bits
    → min (min (min (min h size + waited) (max size (1800 * bits)) - 1800 * bits + arriving) size) (1800 * more)
    ≡ min (min (min (min h size) (1800 * (bits + more)) + waited) (min (max size (1800 * bits)) (1800 * (bits + more))) - 1800 * bits + arriving) (min size (1800 * more))
late_amounts h size bits more waited arriving lt = omega arith

amounts_fine : (k size step n t h : ℕ) (p : Picture) (more : ℕ) → is_under (varying k size step n t h) p.bits (p.bits + more) ≡ false
    → FollowsProcess (varying k size step n t h) p more
unfolding next filled
amounts_fine k size step n t h p more e =
    let b : Buffer = varying k size step n t h in
    let le : 1800 * p.bits ≤ min (min h (1800 * size)) (1800 * (p.bits + more)) = ltb-false _ _ e in
    rw (full_fine b p.bits (p.bits + more) e (never_over k size step n t h (p.bits + more)), wait_fine b p.bits (p.bits + more) e)
    (fine_amounts h (1800 * size) p.bits more (k * p.units) le
    ∙ sym (closed k (1800 * size) more (min (min h (1800 * size)) (1800 * (p.bits + more)) - 1800 * p.bits) p.units (omega arith) (omega arith)))

amounts_late : (k size step n t h : ℕ) (p : Picture) (more : ℕ) → is_under (varying k size step n t h) p.bits (p.bits + more) ≡ true
    → FollowsProcess (varying k size step n t h) p more
unfolding next
amounts_late k size step n t h p more e =
    let b : Buffer = varying k size step n t h in
    let rest : ℕ = p.bits + more in
    let held : ℕ = min (min h (1800 * size)) (1800 * rest) in
    let room : ℕ = max (1800 * size) (1800 * p.bits) in
    let wait : ℕ = wait_of b p.bits rest in
    let lt : held < 1800 * p.bits = ltb-true _ _ e in
    rw (e, never_over k size step n t h rest, closed k room rest held wait (omega arith) (omega arith))
    (late_amounts h (1800 * size) p.bits more (k * wait) (k * p.units) lt
    ∙ sym (closed k (1800 * size) more (min (held + k * wait) (min room (1800 * rest)) - 1800 * p.bits) p.units (omega arith) (omega arith)))

by_cases : (k size step n t h : ℕ) (p : Picture) (more : ℕ) (u : Bool) → is_under (varying k size step n t h) p.bits (p.bits + more) ≡ u
    → FollowsProcess (varying k size step n t h) p more
by_cases k size step n t h p more true e = amounts_late k size step n t h p more e
by_cases k size step n t h p more false e = amounts_fine k size step n t h p more e

process_of : (k size step : ℕ) (varies : Bool) (n t h : ℕ) (p : Picture) (more : ℕ) → varies ≡ true
    → FollowsProcess (record { inflow = record { k = k; buffer_bits = size; step = step; varies = varies }; removals = n; time = t; held = h }) p more
process_of k size step true n t h p more e = by_cases k size step n t h p more _ refl
process_of k size step false n t h p more e = absurd (cc)

pub follows_process : (b : Buffer) (p : Picture) (more : ℕ) → b.inflow.varies ≡ true → FollowsProcess b p more
follows_process b p more e =
    process_of b.inflow.k b.inflow.buffer_bits b.inflow.step b.inflow.varies b.removals b.time b.held p more e

-- ---- the kindest delivery

-- what may be there when the next picture is due
after_fine : (k size step n t h : ℕ) (p : Picture) (rest : ℕ)
    → is_under (varying k size step n t h) p.bits rest ≡ false
    → (next (varying k size step n t h) p rest).held ≡ min h (1800 * size) - 1800 * p.bits + k * p.units
unfolding next
after_fine k size step n t h p rest e =
    rw (full_fine (varying k size step n t h) p.bits rest e (never_over k size step n t h rest)) refl

pub holds_no_more : (k size step n t h most behind : ℕ) (ps : List Picture) (os : List ℕ) → most ≤ h
    → Delivers (inflow k size step) most ps behind os
    → HoldsNoMore os (tells (varying k size step n t h) ps behind)
unfolding tells told next
holds_no_more k size step n t h most behind [] [] le d = tt
holds_no_more k size step n t h most behind [] (o ∷ os) le d = tt
holds_no_more k size step n t h most behind (p ∷ ps) [] le d = tt
holds_no_more k size step n t h most behind (p ∷ ps) (o ∷ os) le d =
    let rest : ℕ = left (p ∷ ps) behind in
    let b : Buffer = next (varying k size step n t h) p rest in (
      omega arith,
      λ fine.
          let e = (or_parts _ _ fine).0 in
          let is = after_fine k size step n t h p rest e in
          holds_no_more k size step b.removals b.time b.held (o - 1800 * p.bits + k * p.units) behind ps os (omega (arith, is)) d.3,
    )

pub all_in_time : (k size step n t h most behind : ℕ) (ps : List Picture) (os : List ℕ) → most ≤ h
    → Delivers (inflow k size step) most ps behind os → HasInTime ps os
    → NoneFails (tells (varying k size step n t h) ps behind)
unfolding tells told next
all_in_time k size step n t h most behind [] os le d whole = tt
all_in_time k size step n t h most behind (p ∷ ps) [] le d whole = absurd d
all_in_time k size step n t h most behind (p ∷ ps) (o ∷ os) le d whole =
    let rest : ℕ = left (p ∷ ps) behind in
    let b : Buffer = next (varying k size step n t h) p rest in
    let e : is_under (varying k size step n t h) p.bits rest ≡ false = le-ltb _ _ (omega arith) in
    let is = after_fine k size step n t h p rest e in (
      or_from _ _ e (never_over k size step n t h rest),
      all_in_time k size step b.removals b.time b.held (o - 1800 * p.bits + k * p.units) behind ps os (omega (arith, is)) d.3 whole.1,
    )

kept_within : (h size bits left behind arriving : ℕ) → left ≡ bits + behind → 1800 * bits ≤ min (min h size) (1800 * left)
    → min (min (min h size - 1800 * bits + arriving) size) (1800 * behind) ≤ min (min h size) (1800 * left) - 1800 * bits + arriving
kept_within h size bits left behind arriving e le = omega arith

pub delivers : (k size step n t h most behind : ℕ) (ps : List Picture)
    → min (min h (1800 * size)) (1800 * left ps behind) ≤ most
    → NoneFails (tells (varying k size step n t h) ps behind)
    → (let os : List ℕ = amounts_of (tells (varying k size step n t h) ps behind) in Delivers (inflow k size step) most ps behind os × HasInTime ps os)
unfolding tells told next
delivers k size step n t h most behind [] le none = (tt, tt)
delivers k size step n t h most behind (p ∷ ps) le none =
    let rest : ℕ = left (p ∷ ps) behind in
    let b : Buffer = next (varying k size step n t h) p rest in
    let e = (or_parts _ _ none.0).0 in
    let is = after_fine k size step n t h p rest e in
    let whole : 1800 * p.bits ≤ min (min h (1800 * size)) (1800 * rest) = ltb-false _ _ e in
    let within = kept_within h (1800 * size) p.bits rest (left ps behind) (k * p.units) (left_cons p ps behind) whole in
    let more = delivers k size step b.removals b.time b.held (min (min h (1800 * size)) (1800 * rest) - 1800 * p.bits + k * p.units) behind ps (rw is within) none.1 in
    ((le, omega arith, omega arith, more.0), (whole, more.1))

-- ---- room

within_at : (k size step : ℕ) (varies : Bool) (n t h rest : ℕ) → varies ≡ true
    → (let b : Buffer = record { inflow = record { k = k; buffer_bits = size; step = step; varies = varies }; removals = n; time = t; held = h } in
    (have_of b rest ≤ size_of b.inflow) × (have_of b rest ≤ 1800 * rest))
within_at k size step true n t h rest e = (omega arith, omega arith)
within_at k size step false n t h rest e = absurd (cc)

pub within_room : (b : Buffer) (rest : ℕ) → b.inflow.varies ≡ true → (have_of b rest ≤ size_of b.inflow) × (have_of b rest ≤ 1800 * rest)
within_room b rest e = within_at b.inflow.k b.inflow.buffer_bits b.inflow.step b.inflow.varies b.removals b.time b.held rest e

pub no_overflow : (b : Buffer) (rest : ℕ) → b.inflow.varies ≡ true → is_over b rest ≡ false
no_overflow b rest e = le-ltb (size_of b.inflow) (have_of b rest) (within_room b rest e).0
