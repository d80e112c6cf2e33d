-- The account at constant rate, up to its first failure: Annex C's sums.
use Rattle.std.proofs.Common.{◌≡◌, ℕ, ◌+◌, ◌-◌, ◌*◌, ◌/◌, ◌<◌, ◌≤◌, ◌⊎◌, ◌↔◌, inl, inr, min, Bool, true, false, ◌||◌, ltb, List, [], ◌∷◌, ◌++◌, refl, sym, ap, ◌∙◌, subst, arith, append_assoc}
use Rattle.std.proofs.lemmas.Bool.{ltb-false, ltb-true, le-ltb, lt-ltb, or_parts, or_from}
use Rattle.std.proofs.lemmas.List.{append-nil}
use Rattle.std.proofs.lemmas.List.Sums.{sum_by_push}
use Rattle.m2v_vbv.specs.Annex.{Start, Removal, removed, time_of, arrived, held_endless, Held, Safe}
use Rattle.m2v_vbv.specs.Account.{State, after, arriving, account_of}
use Rattle.m2v_vbv.specs.Buffer.{Picture, Buffer, constant_start, size_of, have_of, is_over, is_under, told, next, removal_of, removals, left, run, tells, fails}
use Rattle.m2v_vbv.specs.Deliveries.{NoneFails, as_buffer, IsSafeAt, IsUnsafeAt, SafeIn, FailsFirst, UnsafeFirst}
use Rattle.m2v_vbv.proofs.Sums.{AllAt, at_split, from_splits, Exact, exact_none, exact_push, account_push, opening_is}
use Rattle.m2v_vbv.proofs.Fine.{left_cons, wait_fine, full_fine}

-- the buffer behind these removals, by Annex C's sums
abbrev summed : Start → ℕ → List Removal → Buffer
summed start step rs = as_buffer step (account_of start rs)

same_buffer : (k size step n t t' h h' : ℕ) → t ≡ t' → h ≡ h'
    → (let a : Buffer = record { inflow = record { k = k; buffer_bits = size; step = step; varies = false }; removals = n; time = t; held = h } in
    let b : Buffer = record { inflow = record { k = k; buffer_bits = size; step = step; varies = false }; removals = n; time = t'; held = h' } in a ≡ b)
same_buffer k size step n t t' h h' et eh = rw (et, eh) refl

-- a removal that doesn't fail is the account's
fine_next : (step : ℕ) (a : State) (p : Picture) (rest : ℕ)
    → is_under (as_buffer step a) p.bits rest ≡ false → is_over (as_buffer step a) rest ≡ false
    → next (as_buffer step a) p rest ≡ as_buffer step (after a p.bits p.units)
unfolding next
fine_next step a p rest under over =
    let b : Buffer = as_buffer step a in
    rw (full_fine b p.bits rest under over, wait_fine b p.bits rest under)
    (same_buffer a.start.k a.start.buffer_bits step (a.removals + 1) (a.time + (0 + p.units)) (a.time + p.units) _ _ (omega arith) refl)

whole_of : (start : Start) (step : ℕ) (rs : List Removal) (bits rest : ℕ) → is_under (summed start step rs) bits rest ≡ false
    → 1800 * bits ≤ held_endless start rs
unfolding account_of
whole_of start step rs bits rest under =
    let le : 1800 * bits ≤ min (held_endless start rs) (1800 * rest) = ltb-false _ _ under in omega arith

next_is : (start : Start) (step : ℕ) (rs : List Removal) (p : Picture) (rest : ℕ) → Exact start rs
    → is_under (summed start step rs) p.bits rest ≡ false → is_over (summed start step rs) rest ≡ false
    → next (summed start step rs) p rest ≡ summed start step (rs ++ removal_of p ∷ [])
next_is start step rs p rest exact under over =
    fine_next step (account_of start rs) p rest under over
    ∙ ap (as_buffer step) (account_push start rs (removal_of p) exact (whole_of start step rs p.bits rest under))

cut_is : (come removed rest total : ℕ) → removed + rest ≡ total → min (come - 1800 * removed) (1800 * rest) ≡ min come (1800 * total) - 1800 * removed
cut_is come removed rest total e = omega arith

have_is : (start : Start) (step : ℕ) (rs : List Removal) (rest total : ℕ) → removed rs + rest ≡ total
    → have_of (summed start step rs) rest ≡ Held start total rs
unfolding account_of
have_is start step rs rest total e = cut_is (arrived start rs) (removed rs) rest total e

run_is : (start : Start) (step behind : ℕ) (ps : List Picture) (rs : List Removal) → Exact start rs
    → NoneFails (tells (summed start step rs) ps behind)
    → run (summed start step rs) ps behind ≡ summed start step (rs ++ removals ps)
unfolding run tells told
run_is start step behind [] rs exact none = ap (summed start step) (sym (append-nil rs))
run_is start step behind (p ∷ ps) rs exact none =
    let rest : ℕ = left (p ∷ ps) behind in
    let r : Removal = removal_of p in
    let parts = or_parts _ _ none.0 in
    let e = next_is start step rs p rest exact parts.0 parts.1 in
    let more = exact_push start rs r exact (whole_of start step rs p.bits rest parts.0) in
    ap (λ b. run b ps behind) e
    ∙ (run_is start step behind ps (rs ++ r ∷ []) more (subst (λ b. NoneFails (tells b ps behind)) e none.1)
    ∙ ap (summed start step) (append_assoc rs (r ∷ []) (removals ps)))

-- ---- safety

abbrev AllSafe : Start → ℕ → List Removal → List Removal → Type 0
AllSafe start total = AllAt (IsSafeAt start total)

more_removed : (start : Start) (rs : List Removal) (p : Picture) (ps : List Picture) (behind total : ℕ) → removed rs + left (p ∷ ps) behind ≡ total
    → removed (rs ++ removal_of p ∷ []) + left ps behind ≡ total
more_removed start rs p ps behind total e =
    omega (arith, e, left_cons p ps behind, sum_by_push (λ (r : Removal). r.bits) rs (removal_of p))

to_safe : (start : Start) (step behind total : ℕ) (ps : List Picture) (rs : List Removal) → Exact start rs
    → removed rs + left ps behind ≡ total → NoneFails (tells (summed start step rs) ps behind)
    → AllSafe start total rs (removals ps)
unfolding tells told account_of
to_safe start step behind total [] rs exact all none = tt
to_safe start step behind total (p ∷ ps) rs exact all none =
    let rest : ℕ = left (p ∷ ps) behind in
    let r : Removal = removal_of p in
    let parts = or_parts _ _ none.0 in
    let is = have_is start step rs rest total all in
    let whole = whole_of start step rs p.bits rest parts.0 in
    let e = next_is start step rs p rest exact parts.0 parts.1 in (
      (subst (λ n. 1800 * p.bits ≤ n) is (ltb-false _ _ parts.0), subst (λ n. n ≤ 1800 * start.buffer_bits) is (ltb-false _ _ parts.1)),
      to_safe start step behind total ps (rs ++ r ∷ []) (exact_push start rs r exact whole) (more_removed start rs p ps behind total all)
          (subst (λ b. NoneFails (tells b ps behind)) e none.1),
    )

from_safe : (start : Start) (step behind total : ℕ) (ps : List Picture) (rs : List Removal) → Exact start rs
    → removed rs + left ps behind ≡ total → AllSafe start total rs (removals ps)
    → NoneFails (tells (summed start step rs) ps behind)
unfolding tells told account_of
from_safe start step behind total [] rs exact all safe = tt
from_safe start step behind total (p ∷ ps) rs exact all safe =
    let rest : ℕ = left (p ∷ ps) behind in
    let r : Removal = removal_of p in
    let is = have_is start step rs rest total all in
    let under : is_under (summed start step rs) p.bits rest ≡ false = le-ltb _ _ (subst (λ n. 1800 * p.bits ≤ n) (sym is) safe.0.0) in
    let over : is_over (summed start step rs) rest ≡ false = le-ltb _ _ (subst (λ n. n ≤ 1800 * start.buffer_bits) (sym is) safe.0.1) in
    let whole = whole_of start step rs p.bits rest under in
    let e = next_is start step rs p rest exact under over in (
      or_from _ _ under over,
      subst (λ b. NoneFails (tells b ps behind)) (sym e)
          (from_safe start step behind total ps (rs ++ r ∷ []) (exact_push start rs r exact whole) (more_removed start rs p ps behind total all) safe.1),
    )

-- ---- from the stream's start

start_is : (start : Start) (step : ℕ) → constant_start start step ≡ summed start step []
start_is start step = ap (as_buffer step) (opening_is start)

all_of : (ps : List Picture) (behind : ℕ) → removed [] + left ps behind ≡ removed (removals ps) + behind
all_of ps behind = omega arith

pub account_is : (start : Start) (step behind : ℕ) (ps : List Picture) → NoneFails (tells (constant_start start step) ps behind)
    → run (constant_start start step) ps behind ≡ as_buffer step (account_of start (removals ps))
account_is start step behind ps =
    subst (λ b. NoneFails (tells b ps behind) → run b ps behind ≡ as_buffer step (account_of start (removals ps))) (sym (start_is start step))
    (run_is start step behind ps [] (exact_none start))

pub held_is : (start : Start) (step rest : ℕ) (ps : List Picture) → NoneFails (tells (constant_start start step) ps rest)
    → have_of (run (constant_start start step) ps rest) rest ≡ Held start (removed (removals ps) + rest) (removals ps)
held_is start step rest ps none =
    ap (λ b. have_of b rest) (account_is start step rest ps none) ∙ have_is start step (removals ps) rest (removed (removals ps) + rest) refl

pub safe_to : (start : Start) (step behind : ℕ) (ps : List Picture) → NoneFails (tells (constant_start start step) ps behind)
    → SafeIn start (removed (removals ps) + behind) (removals ps)
safe_to start step behind ps none =
    at_split (IsSafeAt start (removed (removals ps) + behind)) (removals ps) []
    (to_safe start step behind (removed (removals ps) + behind) ps [] (exact_none start) (all_of ps behind)
    (subst (λ b. NoneFails (tells b ps behind)) (start_is start step) none))

pub safe_from : (start : Start) (step behind : ℕ) (ps : List Picture) → SafeIn start (removed (removals ps) + behind) (removals ps)
    → NoneFails (tells (constant_start start step) ps behind)
safe_from start step behind ps safe =
    subst (λ b. NoneFails (tells b ps behind)) (sym (start_is start step))
    (from_safe start step behind (removed (removals ps) + behind) ps [] (exact_none start) (all_of ps behind)
    (from_splits (IsSafeAt start (removed (removals ps) + behind)) (removals ps) [] safe))

-- ---- the first failure

or_cases : (u o : Bool) → (u || o) ≡ true → (u ≡ true) ⊎ (o ≡ true)
or_cases true o e = inl refl
or_cases false o e = inr e

or_one : (u o : Bool) → (u ≡ true) ⊎ (o ≡ true) → (u || o) ≡ true
or_one true o e = refl
or_one false o (inl e) = absurd (cc)
or_one false o (inr e) = e

under_at : (have held need : ℕ) → have ≡ held → (ltb have need ≡ true) ↔ (held < need)
under_at have held need e = (λ t. subst (λ n. n < need) e (ltb-true _ _ t), λ lt. lt-ltb _ _ (subst (λ n. n < need) (sym e) lt))

over_at : (have held size : ℕ) → have ≡ held → (ltb size have ≡ true) ↔ (size < held)
over_at have held size e = (λ t. subst (λ n. size < n) e (ltb-true _ _ t), λ lt. lt-ltb _ _ (subst (λ n. size < n) (sym e) lt))

pub under_is : (start : Start) (step rest : ℕ) (ps : List Picture) (p : Picture) → NoneFails (tells (constant_start start step) ps rest)
    → ((told (run (constant_start start step) ps rest) p rest).is_under ≡ true)
    ↔ (Held start (removed (removals ps) + rest) (removals ps) < 1800 * p.bits)
unfolding told
under_is start step rest ps p none = under_at _ _ (1800 * p.bits) (held_is start step rest ps none)

sized : (start : Start) (step rest : ℕ) (ps : List Picture) → NoneFails (tells (constant_start start step) ps rest)
    → size_of (run (constant_start start step) ps rest).inflow ≡ 1800 * start.buffer_bits
unfolding account_of
sized start step rest ps none = ap (λ (b : Buffer). size_of b.inflow) (account_is start step rest ps none)

pub over_is : (start : Start) (step rest : ℕ) (ps : List Picture) (p : Picture) → NoneFails (tells (constant_start start step) ps rest)
    → ((told (run (constant_start start step) ps rest) p rest).is_over ≡ true)
    ↔ (1800 * start.buffer_bits < Held start (removed (removals ps) + rest) (removals ps))
unfolding told
over_is start step rest ps p none =
    let b : Buffer = run (constant_start start step) ps rest in
    subst (λ size. (ltb (size_of b.inflow) (have_of b rest) ≡ true) ↔ (size < Held start (removed (removals ps) + rest) (removals ps))) (sized start step rest ps none)
    (over_at _ _ (size_of b.inflow) (held_is start step rest ps none))

pub fails_is : (start : Start) (step rest : ℕ) (ps : List Picture) (p : Picture) → NoneFails (tells (constant_start start step) ps rest)
    → (fails (told (run (constant_start start step) ps rest) p rest) ≡ true)
    ↔ IsUnsafeAt start (removed (removals ps) + rest) (removals ps) (removal_of p)
fails_is start step rest ps p none = (
  λ t. elim (or_cases _ _ t) [ inl u ↦ inl ((under_is start step rest ps p none).0 u) | inr o ↦ inr ((over_is start step rest ps p none).0 o) ],
  λ s. or_one _ _ (elim s [ inl u ↦ inl ((under_is start step rest ps p none).1 u) | inr o ↦ inr ((over_is start step rest ps p none).1 o) ]),
)

pub first_is : (start : Start) (step rest : ℕ) (ps : List Picture) (p : Picture)
    → FailsFirst (constant_start start step) ps p rest
    ↔ UnsafeFirst start (removed (removals ps) + rest) (removals ps) (removal_of p)
first_is start step rest ps p = (
  λ f. (safe_to start step rest ps f.0, (fails_is start step rest ps p f.0).0 f.1),
  λ u.
      let none = safe_from start step rest ps u.0 in (none, (fails_is start step rest ps p none).1 u.1),
)

plain : (start : Start) (ps : List Picture) → removed (removals ps) + 0 ≡ removed (removals ps)
plain start ps = omega arith

pub all_safe : (start : Start) (step : ℕ) (ps : List Picture) → NoneFails (tells (constant_start start step) ps 0) ↔ Safe start (removals ps)
all_safe start step ps = (
  λ none. subst (λ total. SafeIn start total (removals ps)) (plain start ps) (safe_to start step 0 ps none),
  λ safe. safe_from start step 0 ps (subst (λ total. SafeIn start total (removals ps)) (sym (plain start ps)) safe),
)

-- ---- delays

delay_same : (s kd kt gone code : ℕ) → s ≤ gone + code
    → (1800 * s + kd + kt - 1800 * gone) - 1800 * code ≡ kd + kt - 1800 * (gone + code - s)
delay_same s kd kt gone code le = omega arith

delay_at : (start : Start) (step rest : ℕ) (rs : List Removal) (p : Picture) → fails (told (summed start step rs) p rest) ≡ false
    → start.s ≤ removed rs + p.code_bits
    → (told (summed start step rs) p rest).delay ≡ arriving (account_of start rs) (removed rs + p.code_bits) / (8 * start.k)
unfolding told account_of
delay_at start step rest rs p fine le =
    let parts = or_parts _ _ fine in
    rw (full_fine (summed start step rs) p.bits rest parts.0 parts.1)
    (ap (λ n. n / (8 * start.k)) (delay_same start.s (8 * start.k * start.delay) (start.k * time_of rs) (removed rs) p.code_bits le))

pub delay_is : (start : Start) (step rest : ℕ) (ps : List Picture) (p : Picture) → NoneFails (tells (constant_start start step) ps rest)
    → fails (told (run (constant_start start step) ps rest) p rest) ≡ false
    → start.s ≤ removed (removals ps) + p.code_bits
    → (told (run (constant_start start step) ps rest) p rest).delay
    ≡ arriving (account_of start (removals ps)) (removed (removals ps) + p.code_bits) / (8 * start.k)
delay_is start step rest ps p none fine le =
    let e = account_is start step rest ps none in
    ap (λ b. (told b p rest).delay) e ∙ delay_at start step rest (removals ps) p (subst (λ b. fails (told b p rest) ≡ false) e fine) le
