-- What a cache knows once the needs of a job are learned.
use Rattle.std.proofs.Common.{◌≡◌, ℕ, zero, suc, ◌+◌, ◌-◌, ◌*◌, ◌^◌, ◌<◌, ◌≤◌, cond, min, List, [], ◌∷◌, ◌++◌, length, map, get_or, refl, sym, ap, subst, ◌∙◌, arith, inl, inr}
use Rattle.std.specs.Prelude.{All, nat_eq, nat_lt, sum_by}
use Rattle.std.specs.List.{range_with_len, flat_map}
use Rattle.std.proofs.lemmas.Bool.{cases_lt, cond-true, cond-false, eq-eqb, ne_eqb, le-ltb, lt-ltb}
use Rattle.std.proofs.lemmas.List.{length-append, get_or_append_left, get_or-append-add}
use Rattle.std.proofs.lemmas.List.Elements.{All-map}
use Rattle.std.proofs.lemmas.List.FromFn.{length-map-range_with_len, get_or-map-range_with_len, sum_by-map-range_with_len_more}
use Rattle.m2v_set.proofs.Facts.{bounds}
use Rattle.m2v_rate.specs.Plans.{Entries, first_open}
use Rattle.m2v_core.specs.Book.{cache_after}
use Rattle.m2v_slice.specs.Slices.{CodedSlice, slice_of}
use Rattle.m2v_slice.specs.Books.{Book, CodedPicture, rows, plan_job, slice_job, near_rows, picture_of_job, part_of_job, needs_of, picture_at, slice_at, ledger_with, next_picture, task_of, coded}
use Rattle.m2v_slice.specs.Cached.{Cached}
use Rattle.m2v_slice.specs.Conditions.{IsBook}
use Rattle.m2v_slice.specs.Jobs.{shared_of, learned_of, FitsCache}
use Rattle.m2v_slice.specs.Windows.{needed, first_near, count_near, plan_needs, slice_needs, AreNearRows}
use Rattle.m2v_slice.specs.Works.{HasLearnedPlan, HasLearnedSlice}
use Rattle.m2v_slice.specs.Needs.{all_flat, all_range, slice_few, needed_below}
use Rattle.m2v_slice.proofs.Coded.{picture_is, slice_stays, slice_is, slices_are}
use Rattle.m2v_slice.proofs.Learned.{IsSliceJob, slice_in, plan_in, ledger_in, plan_picture, plan_part, slice_picture, slice_part, HasRows, after_rows, sum_before, sum_more, sum_none, bits_of_slice, work_of_slice, AreSmall, HasBits, after_bits}
use Rattle.m2v_slice.proofs.Groups.{passes_of}
use Rattle.m2v_slice.proofs.Steady.{IsPlan, same_map, next_within, next_work}
use Rattle.m2v_slice.proofs.Sound.{plan_is_good}

-- ---- needs

pub needs_of_plan : (b : Book) (j : ℕ) → part_of_job b j ≡ 0 → needs_of b j ≡ plan_needs b (picture_of_job b j)
unfolding needs_of
needs_of_plan b j e = cond-true (nat_eq (part_of_job b j) 0) _ _ (eq-eqb (part_of_job b j) 0 e)

pub needs_of_slice : (b : Book) (j : ℕ) → IsSliceJob b j → needs_of b j ≡ slice_needs b (picture_of_job b j) (part_of_job b j - 1)
unfolding needs_of
needs_of_slice b j n = cond-false (nat_eq (part_of_job b j) 0) _ _ (ne_eqb (part_of_job b j) 0 n)

-- the slice of a job by its picture and row
slice_in_is : (b : Book) (q r : ℕ) → r < rows b → slice_in b (slice_job b q r) ≡ slice_at (coded b (q + 1)) q r
slice_in_is b q r lt =
    let e : part_of_job b (slice_job b q r) - 1 ≡ r = omega (arith, slice_part b q r lt) in
    ap (λ (i : ℕ). slice_at (coded b (i + 1)) i (part_of_job b (slice_job b q r) - 1)) (slice_picture b q r lt)
    ∙ ap (λ (i : ℕ). slice_at (coded b (q + 1)) q i) e

plan_in_is : (b : Book) (p : ℕ) → plan_in b (plan_job b p) ≡ (picture_at (coded b (p + 1)) p).plan
plan_in_is b p = ap (λ (i : ℕ). (picture_at (coded b (i + 1)) i).plan) (plan_picture b p)

ledger_in_is : (b : Book) (p : ℕ) → ledger_in b (plan_job b p) ≡ ledger_with b (coded b (p + 1)) (first_open p) (coded b (p + 1))
ledger_in_is b p = ap (λ (i : ℕ). ledger_with b (coded b (i + 1)) (first_open i) (coded b (i + 1))) (plan_picture b p)

-- ---- lists of equal parts

flat_length : (f : ℕ → List ℕ) (n : ℕ) (xs : List ℕ) → ((x : ℕ) → length (f x) ≡ n) → length (flat_map f xs) ≡ length xs * n
flat_length f n [] each = omega arith
flat_length f n (x ∷ xs) each =
    let grow : suc (length xs) * n ≡ length xs * n + n = omega arith in
    omega (arith, length-append (f x) (flat_map f xs), each x, flat_length f n xs each, grow)

flat_at : (f : ℕ → List ℕ) (n : ℕ) (xs : List ℕ) (i j : ℕ) → ((x : ℕ) → length (f x) ≡ n) → i < length xs → j < n
    → get_or (flat_map f xs) (i * n + j) 0 ≡ get_or (f (get_or xs i 0)) j 0
flat_at f n [] i j each lt small = absurd (omega arith)
flat_at f n (x ∷ xs) zero j each lt small =
    let e : 0 * n + j ≡ j = omega arith in
    ap (λ (k : ℕ). get_or (f x ++ flat_map f xs) k 0) e ∙ get_or_append_left (f x) (flat_map f xs) 0 j (omega (arith, small, each x))
flat_at f n (x ∷ xs) (suc i) j each lt small =
    let e : suc i * n + j ≡ length (f x) + (i * n + j) = omega (arith, each x) in
    ap (λ (k : ℕ). get_or (f x ++ flat_map f xs) k 0) e
    ∙ get_or-append-add (f x) (flat_map f xs) (i * n + j) 0
    ∙ flat_at f n xs i j each (omega arith) small

-- ---- a slice's cache

abbrev near_jobs : Book → ℕ → ℕ → List ℕ
near_jobs b r k = map (slice_job b k) (near_rows b r)

near_length : (b : Book) (r k : ℕ) → length (near_jobs b r k) ≡ count_near b r
near_length b r k = length-map-range_with_len (slice_job b k) (r - 1) (min (r + 2) (rows b) - (r - 1))

near_at : (b : Book) (r k x : ℕ) → x < count_near b r → get_or (near_jobs b r k) x 0 ≡ slice_job b k (first_near r + x)
near_at b r k x lt = get_or-map-range_with_len (slice_job b k) (r - 1) (count_near b r) x (r - 1 + x) 0 lt refl

near_exists : (b : Book) (r x : ℕ) → x < count_near b r → first_near r + x < rows b
near_exists b r x lt = omega arith

near_slices : (b : Book) (r k : ℕ) → All (IsSliceJob b) (near_jobs b r k)
near_slices b r k =
    All-map (IsSliceJob b) (slice_job b k) (near_rows b r)
    (all_range (λ i. IsSliceJob b (slice_job b k i)) (r - 1) (count_near b r)
    (λ i lt e. omega (arith, e, slice_part b k (r - 1 + i) (near_exists b r i lt))))

abbrev rest_of : Book → ℕ → ℕ → List ℕ
rest_of b p r = flat_map (near_jobs b r) (needed b p)

rest_slices : (b : Book) (p r k : ℕ) → k < length (rest_of b p r) → IsSliceJob b (get_or (rest_of b p r) k 0)
rest_slices b p r k lt = all_flat (IsSliceJob b) (near_jobs b r) (needed b p) (near_slices b r) k 0 lt

times_within : (i n x c : ℕ) → i < n → x < c → i * c + x < n * c
times_within i n x c lt small =
    let k = n - suc i in
    let e : n ≡ i + 1 + k = omega arith in
    let f : n * c ≡ (i + 1 + k) * c = ap (λ m. m * c) e in
    let g : (i + 1 + k) * c ≡ i * c + c + k * c = omega arith in
    omega (arith, f, g, small)

rows_are : (b : Book) (p r total : ℕ) (c : Cached) → HasRows b (plan_job b p) (rest_of b p r) (length (rest_of b p r)) total c → total ≡ 12
    → AreNearRows b p r c.rows
rows_are b p r total c h e =
    let n = count_near b r in
    let long = flat_length (near_jobs b r) n (needed b p) (near_length b r) in
    record {
      room = omega (arith, long, h.size, e, slice_few b p r);
      row = λ i x d lt small.
          let k = i * n + x in
          let q = get_or (needed b p) i 0 in
          let below : k < length (rest_of b p r) = omega (arith, times_within i (length (needed b p)) x n lt small, long) in
          let before : q < p = needed_below b p i 0 lt in
          let job = flat_at (near_jobs b r) n (needed b p) i x (near_length b r) lt small ∙ near_at b r q x small in
          h.row k d below
          ∙ ap (λ (j : ℕ). (slice_in b j).row) job
          ∙ ap (λ (s : CodedSlice). s.row) (slice_in_is b q (first_near r + x) (near_exists b r x small))
          ∙ ap (λ (s : CodedSlice). s.row) (slice_stays b (q + 1) p q (first_near r + x) (omega arith) before);
    }

abbrev IsAfter : Book → ℕ → List ℕ → Cached → Cached → Type 0
IsAfter b j needs c d = d ≡ cache_after (learned_of b j) (shared_of b) needs (length needs) c

pub slice_learned : (b : Book) (j : ℕ) (c d : Cached) → IsSliceJob b j → FitsCache b c → FitsCache b d → IsAfter b j (needs_of b j) c d
    → HasLearnedSlice b (picture_of_job b j) (part_of_job b j - 1) d
slice_learned b j c d is fc fd e =
    let p = picture_of_job b j in
    let r = part_of_job b j - 1 in
    let after : IsAfter b j (slice_needs b p r) c d = subst (λ (xs : List ℕ). IsAfter b j xs c d) (needs_of_slice b j is) e in
    let h = after_rows b j (plan_job b p) (rest_of b p r) (length (rest_of b p r)) c is (plan_part b p) (rest_slices b p r) (omega (arith, slice_few b p r, fc.room)) in
    let g = subst (HasRows b (plan_job b p) (rest_of b p r) (length (rest_of b p r)) (length c.rows)) (sym after) h in
    record { plan = g.plan ∙ plan_in_is b p; rows = rows_are b p r (length c.rows) d g fc.room; fits = fd }

-- ---- a plan's cache

abbrev all_slices : Book → ℕ → List ℕ
all_slices b q = map (slice_job b q) (range_with_len 0 (rows b))

all_at : (b : Book) (q k : ℕ) → k < rows b → get_or (all_slices b q) k 0 ≡ slice_job b q k
all_at b q k lt = get_or-map-range_with_len (slice_job b q) 0 (rows b) k k 0 lt (omega arith)

all_length : (b : Book) (q : ℕ) → length (all_slices b q) ≡ rows b
all_length b q = length-map-range_with_len (slice_job b q) 0 (rows b)

abbrev sum_of : (CodedSlice → ℕ) → Book → ℕ → ℕ → ℕ
sum_of f b q n = sum_by f (map (λ r. slice_at (coded b (q + 1)) q r) (range_with_len 0 n))

sum_is : (f : CodedSlice → ℕ) (b : Book) (q n : ℕ) → n ≤ rows b → sum_before f b (all_slices b q) n ≡ sum_of f b q n
sum_is f b q zero le = sym (sum_none f b (all_slices b q))
sum_is f b q (suc n) le =
    let e : n + 1 ≡ suc n = omega arith in
    let g = λ (r : ℕ). slice_at (coded b (q + 1)) q r in
    let here = ap (λ (j : ℕ). f (slice_in b j)) (all_at b q n (omega arith)) ∙ ap f (slice_in_is b q n (omega arith)) in
    let more = sum_by-map-range_with_len_more f g 0 n n (omega arith) in
    let whole = ap (λ (m : ℕ). sum_by f (map g (range_with_len 0 m))) e in
    omega (arith, sum_more f b (all_slices b q) n, sum_is f b q n (omega arith), here, more, whole)

sum_rise : (f : CodedSlice → ℕ) (b : Book) (rest : List ℕ) (n k : ℕ) → sum_before f b rest n ≤ sum_before f b rest (n + k)
sum_rise f b rest n zero = let e : n + 0 ≡ n = omega arith in omega (arith, ap (sum_before f b rest) e)
sum_rise f b rest n (suc k) =
    let e : n + suc k ≡ suc (n + k) = omega arith in
    omega (arith, ap (sum_before f b rest) e, sum_more f b rest (n + k), sum_rise f b rest n k)

-- the sum over all slices of a picture
slices_sum : (f : CodedSlice → ℕ) (b : Book) (n q : ℕ) → q < n → sum_of f b q (rows b) ≡ sum_by f (picture_at (coded b n) q).slices
slices_sum f b n q lt =
    let x = next_picture b (coded b q) in
    let same = same_map (λ r. slice_at (coded b (q + 1)) q r) (λ r. slice_of (task_of b (coded b q) q x.plan r)) (rows b)
    (λ r small. slice_is b (q + 1) q r (omega arith) small
    ∙ ap (λ (y : CodedPicture). slice_of (task_of b (coded b q) q y.plan r)) (picture_is b (q + 1) q (omega arith))) in
    ap (sum_by f) (same ∙ sym (slices_are b q)) ∙ ap (λ (y : CodedPicture). sum_by f y.slices) (sym (picture_is b n q lt))

next_plan_good : (b : Book) → IsBook b → (q : ℕ) → q < length b.pictures → IsPlan b.settings (next_picture b (coded b q)).plan
next_plan_good b h q lt =
    subst (λ (x : CodedPicture). IsPlan b.settings x.plan) (picture_is b (q + 1) q (omega arith)) (plan_is_good b h (q + 1) q (omega arith) (omega arith))

-- a sum over the first slices is at most that over all
sum_within : (f : CodedSlice → ℕ) (b : Book) (q k : ℕ) → k ≤ rows b → sum_before f b (all_slices b q) k ≤ sum_by f (next_picture b (coded b q)).slices
sum_within f b q k le =
    let rise = sum_rise f b (all_slices b q) k (rows b - k) in
    let e : k + (rows b - k) ≡ rows b = omega arith in
    let all = sum_is f b q (rows b) (omega arith) in
    let same = slices_sum f b (q + 1) q (omega arith) ∙ ap (λ (y : CodedPicture). sum_by f y.slices) (picture_is b (q + 1) q (omega arith)) in
    omega (arith, rise, ap (sum_before f b (all_slices b q)) e, all, same)

sums_few : (b : Book) → IsBook b → (q : ℕ) → q < length b.pictures → AreSmall b (all_slices b q) (rows b)
sums_few b h q lt k le =
    let good = next_plan_good b h q lt in
    let bits = next_within b h q lt good in
    let work = next_work b h q lt good in
    let size = (bounds b.settings (passes_of b h)).size in (
      omega (arith, sum_within bits_of_slice b q k le, bits, good.most, size.buffer),
      omega (arith, sum_within work_of_slice b q k le, work, bits, good.most, size.buffer),
    )

all_slice_jobs : (b : Book) (q k : ℕ) → k < rows b → IsSliceJob b (get_or (all_slices b q) k 0)
all_slice_jobs b q k lt e = omega (arith, ap (part_of_job b) (all_at b q k lt), slice_part b q k lt, e)

abbrev plan_rest : Book → ℕ → List ℕ
plan_rest b p = cond (nat_lt p 4) [] (all_slices b (p - 4))

plan_needs_are : (b : Book) (p : ℕ) → 1 ≤ p → plan_needs b p ≡ plan_job b (p - 1) ∷ plan_rest b p
plan_needs_are b p some = cond-false (nat_eq p 0) _ _ (ne_eqb p 0 (λ e. omega (arith, e, some)))

plan_rest_none : (b : Book) (p : ℕ) → p < 4 → plan_rest b p ≡ []
plan_rest_none b p lt = cond-true (nat_lt p 4) _ _ (lt-ltb p 4 lt)

plan_rest_all : (b : Book) (p : ℕ) → 4 ≤ p → plan_rest b p ≡ all_slices b (p - 4)
plan_rest_all b p le = cond-false (nat_lt p 4) _ _ (le-ltb p 4 le)

-- behind the plan before, and the bits of these slices
bits_known : (b : Book) (j p : ℕ) (rest : List ℕ) (c d : Cached) → part_of_job b j ≡ 0 → IsAfter b j (plan_job b (p - 1) ∷ rest) c d
    → ((k : ℕ) → k < length rest → IsSliceJob b (get_or rest k 0)) → AreSmall b rest (length rest)
    → HasBits b (plan_job b (p - 1)) rest (length rest) d
bits_known b j p rest c d is e each small =
    subst (HasBits b (plan_job b (p - 1)) rest (length rest)) (sym e)
    (after_bits b j (plan_job b (p - 1)) rest (length rest) c is (plan_part b (p - 1)) each small)

ledger_before : (b : Book) (p : ℕ) (l : Entries) → 1 ≤ p → l ≡ ledger_in b (plan_job b (p - 1)) → l ≡ ledger_with b (coded b p) (first_open (p - 1)) (coded b p)
ledger_before b p l some e =
    let s : p - 1 + 1 ≡ p = omega arith in
    e ∙ ledger_in_is b (p - 1) ∙ ap (λ (i : ℕ). ledger_with b (coded b i) (first_open (p - 1)) (coded b i)) s

early : (b : Book) (j p : ℕ) (c d : Cached) → p < 4 → part_of_job b j ≡ 0 → IsAfter b j (plan_needs b p) c d → HasLearnedPlan b p d
early b j p c d lt is e = record {
  ledger = λ some.
      let after : IsAfter b j (plan_job b (p - 1) ∷ []) c d =
      subst (λ (xs : List ℕ). IsAfter b j xs c d) (plan_needs_are b p some ∙ ap (λ (xs : List ℕ). plan_job b (p - 1) ∷ xs) (plan_rest_none b p lt)) e in
      ledger_before b p d.ledger some
      (bits_known b j p [] c d is after (λ k none. absurd (omega arith)) (λ k none. (sum_zero bits_of_slice b k none, sum_zero work_of_slice b k none))).ledger;
  bits = λ four. absurd (omega arith);
  work = λ four. absurd (omega arith);
}
  where
    sum_zero : (f : CodedSlice → ℕ) (b : Book) (k : ℕ) → k ≤ 0 → sum_before f b [] k < 2 ^ 64
    sum_zero f b k le = let e : k ≡ 0 = omega arith in omega (arith, ap (sum_before f b []) e, sum_none f b [])

late : (b : Book) → IsBook b → (j p : ℕ) (c d : Cached) → 4 ≤ p → p < length b.pictures → part_of_job b j ≡ 0 → IsAfter b j (plan_needs b p) c d → HasLearnedPlan b p d
late b h j p c d four lt is e =
    let q = p - 4 in
    let after : IsAfter b j (plan_job b (p - 1) ∷ all_slices b q) c d =
    subst (λ (xs : List ℕ). IsAfter b j xs c d) (plan_needs_are b p (omega arith) ∙ ap (λ (xs : List ℕ). plan_job b (p - 1) ∷ xs) (plan_rest_all b p four)) e in
    let long = all_length b q in
    let known = bits_known b j p (all_slices b q) c d is after
    (λ k small. all_slice_jobs b q k (omega (arith, small, long)))
    (λ k small. sums_few b h q (omega arith) k (omega (arith, small, long))) in
    record {
      ledger = λ some. ledger_before b p d.ledger some known.ledger;
      bits = λ again. known.bits ∙ ap (sum_before bits_of_slice b (all_slices b q)) long ∙ sum_is bits_of_slice b q (rows b) (omega arith) ∙ slices_sum bits_of_slice b p q (omega arith);
      work = λ again. known.work ∙ ap (sum_before work_of_slice b (all_slices b q)) long ∙ sum_is work_of_slice b q (rows b) (omega arith) ∙ slices_sum work_of_slice b p q (omega arith);
    }

pub plan_learned : (b : Book) → IsBook b → (j : ℕ) (c d : Cached) → picture_of_job b j < length b.pictures → part_of_job b j ≡ 0
    → IsAfter b j (needs_of b j) c d → HasLearnedPlan b (picture_of_job b j) d
plan_learned b h j c d lt is e =
    let p = picture_of_job b j in
    let after : IsAfter b j (plan_needs b p) c d = subst (λ (xs : List ℕ). IsAfter b j xs c d) (needs_of_plan b j is) e in
    elim (cases_lt p 4) [
      | inl less ↦ early b j p c d less is after
      | inr four ↦ late b h j p c d four lt is after
    ]
