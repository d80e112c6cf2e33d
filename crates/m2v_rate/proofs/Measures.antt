-- What was measured of pictures, and the bounds of what the plan by the source is made of.
use Rattle.std.proofs.Common.{inl, inr, ◌≡◌, ℕ, zero, suc, ◌+◌, ◌-◌, ◌*◌, ◌/◌, ◌≤◌, ◌<◌, ◌^◌, true, if◌then◌else◌, nat_eq, length, get_or, arith, ◌∙◌, Option, Some, None, IfSome}
use Rattle.std.specs.Option.{option_map}
use Rattle.std.proofs.Math.Nat.{div-le_self}
use Rattle.std.proofs.lemmas.Bool.{cases_lt, lt-ltb, le-ltb, cond_both}
use Rattle.std.proofs.lemmas.List.{length-map}
use Rattle.std.proofs.lemmas.List.Elements.{All-map}
use Rattle.m2v_set.specs.Numbers.{least_of, IsInterval}
use Rattle.m2v_set.specs.Rules.{is_even}
use Rattle.m2v_set.proofs.Facts.{bounds}
use Rattle.m2v_rate.specs.declared.outlook.Measured.{Measured}
use Rattle.m2v_rate.specs.declared.values.Known.{Known}
use Rattle.m2v_rate.specs.Sharing.{Outlook, complexity, complexity_at, kind_at, quantiser, target, IsMeasured, IsPictureActivity, IsIncome, IsOutlook}
use Rattle.m2v_rate.specs.Sharing.{last_of as last_in}
use Rattle.m2v_rate.specs.Plans.{Entries, first_open, known_at, last_known, outlook_of}
use Rattle.m2v_rate.specs.Steady.{IsBegun, IsKnown, AreMeasured, IsLedger}
use Rattle.m2v_rate.proofs.Lows.{income_low, income_high, low_most, mean_most}
use Rattle.m2v_rate.proofs.Targets.{buffer_small, part_most}

-- ---- the last picture of a type

pub known_measured : (l : Entries) (kind n : ℕ) → AreMeasured l → n ≤ length l.sizes → IfSome (last_known l kind n) IsKnown
unfolding last_known
known_measured l kind zero h le =
    let of = λ (o : Option Known). IfSome o IsKnown in
    cond_both (nat_eq kind 1) l.last_i (if nat_eq kind 2 then l.last_p else l.last_b) of (λ e. h.last_i)
    (λ e. cond_both (nat_eq kind 2) l.last_p l.last_b of (λ f. h.last_p) (λ f. h.last_b))
known_measured l kind (suc n) h le =
    let work : IsMeasured (known_at l n).measured = record { work = h.works n 0 (omega (arith, h.worked, le)) } in
    let before = known_measured l kind n h (omega (arith, le)) in
    cond_both (nat_eq (get_or l.kinds n 0) kind) (Some (known_at l n)) (last_known l kind n) (λ (o : Option Known). IfSome o IsKnown) (λ e. work) (λ e. before)

pub measured_of : (o : Option Known) → IfSome o IsKnown → IfSome (option_map (λ (k : Known). k.measured) o) IsMeasured
measured_of None h = h
measured_of (Some k) h = h

-- ---- what the plan by the source is made of

income_is : (l : Entries) (u : ℕ) → IsBegun l → IsInterval l.settings u → IsIncome (l.settings.bits * u / 1800)
unfolding least_of
income_is l u h i =
    let b = bounds l.settings h.passes in record {
      some = omega (arith, income_low l.settings u b i);
      most = omega (arith, income_high l.settings u b i, buffer_small l h);
    }

pub outlook_is : (l : Entries) (p : ℕ) → IsLedger l → is_even l.settings.planning ≡ true → p < length l.kinds → p ≤ length l.sizes + 3 → IsOutlook (outlook_of l p)
outlook_is l p h even lt known =
    let f = first_open p in
    let begun = h.steady.begun in
    let last = λ (kind : ℕ). measured_of (last_known l kind f) (known_measured l kind f h.measured (omega arith)) in
    record {
      few = h.few;
      active = h.measured.active;
      timed = length-map l.intervals (λ (u : ℕ). l.settings.bits * u / 1800) ∙ begun.timed;
      activities = h.measured.activities even;
      incomes = All-map IsIncome (λ (u : ℕ). l.settings.bits * u / 1800) l.intervals (λ k d less. income_is l (get_or l.intervals k d) begun (begun.times k d less));
      last_i = last 1;
      last_p = last 2;
      last_b = last 3;
      mean = omega (arith, mean_most l f (p - f) begun (omega arith), buffer_small l begun);
      low = omega (arith, low_most l f (p - f) begun (omega arith), buffer_small l begun);
      start = omega (arith, (bounds l.settings begun.passes).time.waits, buffer_small l begun);
    }

-- ---- how large a target can be

complexity_most : (last : Option Measured) (activity : ℕ) → IfSome last IsMeasured → IsPictureActivity activity → complexity last activity < 2 ^ 30
unfolding complexity
complexity_most None activity measured active = omega (arith, active.most)
complexity_most (Some n) activity measured active = elim (cases_lt n.activity activity) [
  | inl grew ↦ rw (lt-ltb n.activity activity grew) (omega (arith, measured.work, active.most))
  | inr fell ↦
      let some : 0 < n.activity = omega (arith, active.some, fell) in
      rw (le-ltb n.activity activity fell) (omega (arith, measured.work, part_most n.work activity n.activity some fell))
]

last_is : (o : Outlook) (kind : ℕ) → IsOutlook o → IfSome (last_in o kind) IsMeasured
last_is o kind h =
    let of = λ (m : Option Measured). IfSome m IsMeasured in
    cond_both (nat_eq kind 1) o.last_i (if nat_eq kind 2 then o.last_p else o.last_b) of (λ e. h.last_i)
    (λ e. cond_both (nat_eq kind 2) o.last_p o.last_b of (λ f. h.last_p) (λ f. h.last_b))

pub even_target_most : (o : Outlook) (p : ℕ) → IsOutlook o → p < length o.kinds → target o p < 2 ^ 30
unfolding target complexity_at
even_target_most o p h lt =
    let last = last_in o (kind_at o p) in
    let activity = get_or o.activities p 0 in
    omega (
      arith,
      complexity_most last activity (last_is o (kind_at o p) h) (h.activities p 0 (omega (arith, h.active))),
      div-le_self (complexity last activity) (quantiser o p),
    )
