-- A slice up to a macroblock, where quantisers go by activities.
use Rattle.std.proofs.Common.{◌≡◌, ℕ, ◌+◌, ◌-◌, ◌*◌, ◌^◌, ◌<◌, ◌≤◌, inl, inr, List, length, take, drop, get_or, ap, sym, subst, ◌∙◌, arith}
use Rattle.std.specs.Prelude.{nat_eq, ◌||◌, if◌then◌else◌, All, sum, slice_index}
use Rattle.std.proofs.Math.ListN.{get_or-eq_default}
use Rattle.std.proofs.lemmas.Bool.{cases_lt}
use Rattle.std.proofs.lemmas.List.{take_all, drop_all, length-take}
use Rattle.std.proofs.lemmas.List.Sums.{sum_by_more, sum_by-drop_more, sum_by-take-drop, sum_by-le, get_or-le-sum_by}
use Rattle.std.proofs.lemmas.List.Elements.{All-take, All-get_or, All-weaker}
use Rattle.m2v_enc_activity.specs.Activity.{IsActivity}
use Rattle.m2v_plane.specs.Samples.{Samples}
use Rattle.m2v_rate.specs.declared.raising.SliceSoFar.{SliceSoFar}
use Rattle.m2v_rate.specs.Sharing.{raised, IsSliceSoFar}
use Rattle.m2v_slice.specs.Slices.{SliceTask, Begun, room, so_far, quantiser_at, begun}
use Rattle.m2v_slice.specs.Laws.{AreSliceActivities, IsSlice}
use Rattle.m2v_slice.proofs.Keeps.{keeps_some}

-- ---- sums of activities

-- before one macroblock more, and from the next one on; past the end there is none
pub before_more : (xs : List ℕ) (n : ℕ) → sum (take (n + 1) xs) ≡ sum (take n xs) + slice_index xs n
before_more xs n = elim (cases_lt n (length xs)) [
  | inl lt ↦ sum_by_more (λ (k : ℕ). k) xs n 0 lt
  | inr le ↦
      let here : sum (take n xs) ≡ sum xs = ap (λ (ys : List ℕ). sum ys) (take_all n xs le) in
      let more : sum (take (n + 1) xs) ≡ sum xs = ap (λ (ys : List ℕ). sum ys) (take_all (n + 1) xs (omega (arith, le))) in
      let none : slice_index xs n ≡ 0 = get_or-eq_default xs 0 le in
      omega (arith, here, more, none)
]

pub ahead_less : (xs : List ℕ) (n : ℕ) → sum (drop n xs) ≡ slice_index xs n + sum (drop (n + 1) xs)
ahead_less xs n = elim (cases_lt n (length xs)) [
  | inl lt ↦ sum_by-drop_more (λ (k : ℕ). k) xs n 0 lt
  | inr le ↦
      let here : sum (drop n xs) ≡ 0 = ap (λ (ys : List ℕ). sum ys) (drop_all n xs le) in
      let more : sum (drop (n + 1) xs) ≡ 0 = ap (λ (ys : List ℕ). sum ys) (drop_all (n + 1) xs (omega (arith, le))) in
      let none : slice_index xs n ≡ 0 = get_or-eq_default xs 0 le in
      omega (arith, here, more, none)
]

sum_most : (xs : List ℕ) → All IsActivity xs → sum xs ≤ length xs * 65536
sum_most xs h = sum_by-le (λ (k : ℕ). k) 65536 xs (All-weaker IsActivity (λ (k : ℕ). k ≤ 65536) (λ (k : ℕ) (is : IsActivity k). is.most) xs h)

sum_some : (xs : List ℕ) → All IsActivity xs → 0 < length xs → 1 ≤ sum xs
sum_some xs h some =
    let first : IsActivity (get_or xs 0 0) = All-get_or IsActivity xs 0 0 some h in
    let least : get_or xs 0 0 ≤ sum xs = get_or-le-sum_by (λ (k : ℕ). k) xs 0 0 some in
    omega (arith, first.some, least)

before_some : (xs : List ℕ) (n : ℕ) → All IsActivity xs → 0 < n → 0 < length xs → 1 ≤ sum (take n xs)
before_some xs n h some more = sum_some (take n xs) (All-take IsActivity n xs h) (omega (arith, some, more, length-take n xs))

parts : (xs : List ℕ) (n : ℕ) → sum (take n xs) + sum (drop n xs) ≡ sum xs
parts xs n = sum_by-take-drop (λ (k : ℕ). k) xs n

-- ---- the slice so far

module _ (t : SliceTask) (slice : IsSlice t) where
  sum_within : AreSliceActivities t.context.columns t.activities → sum t.activities < 2 ^ 23
  sum_within (inl e) = let none : sum t.activities ≡ 0 = ap (λ (xs : List ℕ). sum xs) e in omega (arith, none)
  sum_within (inr h) = omega (arith, sum_most t.activities h.range, h.count, slice.own.columns.1)

  -- sums of activities are small, whether there are any or not
  pub before_small : AreSliceActivities t.context.columns t.activities → (n : ℕ) → sum (take n t.activities) < 2 ^ 23
  before_small active n = omega (arith, parts t.activities n, sum_within active)

  pub ahead_small : AreSliceActivities t.context.columns t.activities → (n : ℕ) → sum (drop n t.activities) < 2 ^ 23
  ahead_small active n = omega (arith, parts t.activities n, sum_within active)

  pub work_small : (row : Samples) (n : ℕ) → n ≤ t.context.columns → (begun t row n).work < 2 ^ 25
  work_small row n le =
      let h = (keeps_some t slice row n le).1 in
      omega (arith, h.work, h.most, le, slice.own.columns.1)

  pub few_activities : AreSliceActivities t.context.columns t.activities → length t.activities ≤ 120
  few_activities (inl e) = omega (arith, ap (λ (xs : List ℕ). length xs) e)
  few_activities (inr h) = omega (arith, h.count, slice.own.columns.1)

  some_before : (n : ℕ) → AreSliceActivities t.context.columns t.activities → 0 < n → 0 < length t.activities → 1 ≤ sum (take n t.activities)
  some_before n (inl e) some more = absurd (omega (arith, more, ap (λ (xs : List ℕ). length xs) e))
  some_before n (inr h) some more = before_some t.activities n h.range some more

  left_small : (s : Begun) (n : ℕ) → t.cap < 2 ^ 24 → room t s n - 31 < 2 ^ 24
  unfolding room
  left_small s n most = omega (arith, most)

  pub is_so_far : AreSliceActivities t.context.columns t.activities → t.cap < 2 ^ 24 → (row : Samples) (n : ℕ) → n < t.context.columns → 0 < n → 0 < length t.activities
      → IsSliceSoFar (so_far t (begun t row n) n)
  is_so_far active most row n small some more = record {
    work = work_small row n (omega (arith, small));
    ahead = ahead_small active n;
    some = some_before n active some more;
    before = before_small active n;
    left = left_small (begun t row n) n most;
  }

-- ---- as the program has it

-- what is left, by the bits so far
left_is : (t : SliceTask) (s : Begun) (n bits later : ℕ) → bits ≡ 38 + length s.text → n < t.context.columns → later ≡ t.context.columns - n
    → t.cap - bits - 31 * later ≡ room t s n - 31
unfolding room
left_is t s n bits later len small rest = omega (arith, len, small, rest)

-- by numbers that are equal
abbrev pub effort : SliceTask → ℕ → ℕ → ℕ → ℕ → ℕ → SliceSoFar
effort t bits later work before ahead = record { work = work; before = before; ahead = ahead; left = t.cap - bits - 31 * later }

module _ (t : SliceTask) (s : Begun) (n bits later work before ahead : ℕ) (small : n < t.context.columns) (len : bits ≡ 38 + length s.text) (rest : later ≡ t.context.columns - n)
    (ew : work ≡ s.work) (eb : before ≡ sum (take n t.activities)) (ea : ahead ≡ sum (drop n t.activities)) where
  pub effort_is : effort t bits later work before ahead ≡ so_far t s n
  effort_is =
      let el = left_is t s n bits later len small rest in
      λ i. record { work = ew i; before = eb i; ahead = ea i; left = el i }

  pub coarse_is : (q : ℕ) → q ≡ (if nat_eq n 0 || nat_eq (length t.activities) 0 then t.q else raised t.q (effort t bits later work before ahead)) → q ≡ quantiser_at t s n
  unfolding quantiser_at
  coarse_is q e = e ∙ ap (λ (y : SliceSoFar). if nat_eq n 0 || nat_eq (length t.activities) 0 then t.q else raised t.q y) effort_is

  pub effort_so : IsSliceSoFar (so_far t s n) → IsSliceSoFar (effort t bits later work before ahead)
  effort_so h = subst IsSliceSoFar (sym effort_is) h
