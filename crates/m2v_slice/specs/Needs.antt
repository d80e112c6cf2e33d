-- Each need of a job is a lower job, and there are few of them.
use Rattle.std.proofs.Common.{◌≡◌, ℕ, zero, suc, ◌+◌, ◌-◌, ◌*◌, ◌<◌, ◌≤◌, Bool, true, false, cond, not, min, List, [], ◌∷◌, ◌++◌, length, map, Option, Some, None, sym, ap, subst, arith, inl, inr}
use Rattle.std.specs.Prelude.{All, nat_le, nat_eq, nat_lt, ◌&&◌}
use Rattle.std.specs.List.{flat_map, range_with_len}
use Rattle.std.proofs.lemmas.Bool.{eqb-false, ltb-false, leb-true, cond_both, cond-false, cases_Bool}
use Rattle.std.proofs.lemmas.Nat.{div-add-mod', mod_below}
use Rattle.std.proofs.lemmas.List.{length-append}
use Rattle.std.proofs.lemmas.List.Elements.{All-nil, All-cons, All-append, All-head, All-tail, All-map, All-weaker}
use Rattle.std.proofs.lemmas.List.FromFn.{length-range_with_len, length-map-range_with_len, get_or-range_with_len}
use Rattle.m2v_plane.specs.declared.planes.Lines.{Lines}
use Rattle.m2v_plane.specs.declared.planes.Lines.TheVariants.{Whole, Top, Bottom}
use Rattle.m2v_slice.specs.Books.{Book, rows, job_at, has_lines, anchors_before, nth, reference_picture, plan_job, slice_job, picture_of_job, part_of_job, reference_pictures, in_group, near_rows, needs_of}
use Rattle.m2v_slice.specs.Jobs.{jobs_of}

-- ---- lists

pub all_flat : {X A : Type 0} (P : A → Type 0) (f : X → List A) (xs : List X) → ((x : X) → All P (f x)) → All P (flat_map f xs)
all_flat P f [] each = All-nil P
all_flat P f (x ∷ xs) each = All-append P (f x) (flat_map f xs) (each x) (all_flat P f xs each)

pub all_over : {X A : Type 0} (P : A → Type 0) (Q : X → Type 0) (f : X → List A) (xs : List X) → All Q xs → ((x : X) → Q x → All P (f x)) → All P (flat_map f xs)
all_over P Q f [] known each = All-nil P
all_over P Q f (x ∷ xs) known each =
    All-append P (f x) (flat_map f xs) (each x (All-head Q x xs known)) (all_over P Q f xs (All-tail Q x xs known) each)

pub all_range : (P : ℕ → Type 0) (a n : ℕ) → ((i : ℕ) → i < n → P (a + i)) → All P (range_with_len a n)
all_range P a n each i d lt =
    let small : i < n = omega (arith, lt, length-range_with_len a n) in
    subst P (sym (get_or-range_with_len a n i d small)) (each i small)

pub flat_few : {X A : Type 0} (f : X → List A) (xs : List X) (k n : ℕ) → ((x : X) → length (f x) ≤ k) → length xs ≤ n → length (flat_map f xs) ≤ k * n
flat_few f [] k n each few = omega arith
flat_few f (x ∷ xs) k zero each few = absurd (omega arith)
flat_few f (x ∷ xs) k (suc n) each few =
    let rec = flat_few f xs k n each (omega arith) in
    let grow : k * suc n ≡ k * n + k = omega arith in
    omega (arith, rec, each x, length-append (f x) (flat_map f xs), grow)

-- ---- references

by_test : (t : Bool) (p : ℕ) (xs : List ℕ) → All (λ q. q < suc p) xs → All (λ q. q < suc p) (cond t (p ∷ []) [] ++ xs)
by_test true p xs each = All-cons (λ q. q < suc p) p xs (omega arith) each
by_test false p xs each = each

pub anchors_below : (b : Book) (lines : Lines) (p : ℕ) → All (λ q. q < p) (anchors_before b lines p)
unfolding anchors_before
anchors_below b lines zero = All-nil (λ q. q < zero)
anchors_below b lines (suc p) =
    by_test (not (nat_eq (job_at b p).kind 3) && has_lines (job_at b p).structure lines) p (anchors_before b lines p)
    (All-weaker (λ q. q < p) (λ q. q < suc p) (λ q lt. omega arith) (anchors_before b lines p) (anchors_below b lines p))

nth_all : (P : ℕ → Type 0) (n : ℕ) (xs : List ℕ) → All P xs → All P (in_group (nth n xs))
unfolding nth
nth_all P n [] each = All-nil P
nth_all P zero (x ∷ xs) each = All-cons P x [] (All-head P x xs each) (All-nil P)
nth_all P (suc n) (x ∷ xs) each = nth_all P n xs (All-tail P x xs each)

abbrev IsBelow : ℕ → Option ℕ → Type 0
IsBelow p o = All (λ q. q < p) (in_group o)

picture_below : (b : Book) (p n : ℕ) (lines : Lines) → IsBelow p (reference_picture b p n lines)
picture_below b p n lines = nth_all (λ q. q < p) n (anchors_before b lines p) (anchors_below b lines p)

abbrev of_number : Book → ℕ → ℕ → List (Option ℕ)
of_number b p n =
    cond (nat_eq (job_at b p).structure 3) (reference_picture b p n Whole ∷ []) (reference_picture b p n Top ∷ reference_picture b p n Bottom ∷ [])

number_below : (b : Book) (p n : ℕ) (t : Bool)
    → All (IsBelow p) (cond t (reference_picture b p n Whole ∷ []) (reference_picture b p n Top ∷ reference_picture b p n Bottom ∷ []))
number_below b p n true = All-cons (IsBelow p) (reference_picture b p n Whole) [] (picture_below b p n Whole) (All-nil (IsBelow p))
number_below b p n false =
    All-cons (IsBelow p) (reference_picture b p n Top) (reference_picture b p n Bottom ∷ []) (picture_below b p n Top)
    (All-cons (IsBelow p) (reference_picture b p n Bottom) [] (picture_below b p n Bottom) (All-nil (IsBelow p)))

by_kind_below : (b : Book) (p : ℕ) (t : Bool) (ns : List ℕ) → All (IsBelow p) (cond t [] (flat_map (of_number b p) ns))
by_kind_below b p true ns = All-nil (IsBelow p)
by_kind_below b p false ns = all_flat (IsBelow p) (of_number b p) ns (λ n. number_below b p n (nat_eq (job_at b p).structure 3))

pub needed_below : (b : Book) (p : ℕ) → All (λ q. q < p) (flat_map in_group (reference_pictures b p))
unfolding reference_pictures
needed_below b p =
    all_over (λ q. q < p) (IsBelow p) in_group (reference_pictures b p)
    (by_kind_below b p (nat_eq (job_at b p).kind 1) (cond (nat_eq (job_at b p).kind 2) (0 ∷ []) (1 ∷ 0 ∷ [])))
    (λ o h. h)

number_few : (b : Book) (p n : ℕ) (t : Bool)
    → length (cond t (reference_picture b p n Whole ∷ []) (reference_picture b p n Top ∷ reference_picture b p n Bottom ∷ [])) ≤ 2
number_few b p n true = omega arith
number_few b p n false = omega arith

numbers_few : (t : Bool) → length {A = ℕ} (cond t (0 ∷ []) (1 ∷ 0 ∷ [])) ≤ 2
numbers_few true = omega arith
numbers_few false = omega arith

by_kind_few : (b : Book) (p : ℕ) (t u : Bool) → length (cond t [] (flat_map (of_number b p) (cond u (0 ∷ []) (1 ∷ 0 ∷ [])))) ≤ 4
by_kind_few b p true u = omega arith
by_kind_few b p false u =
    flat_few (of_number b p) (cond u (0 ∷ []) (1 ∷ 0 ∷ [])) 2 2 (λ n. number_few b p n (nat_eq (job_at b p).structure 3)) (numbers_few u)

one_few : (o : Option ℕ) → length (in_group o) ≤ 1
one_few (Some q) = omega arith
one_few None = omega arith

pub needed_few : (b : Book) (p : ℕ) → length (flat_map in_group (reference_pictures b p)) ≤ 4
unfolding reference_pictures
needed_few b p =
    let few = by_kind_few b p (nat_eq (job_at b p).kind 1) (nat_eq (job_at b p).kind 2) in
    flat_few in_group (reference_pictures b p) 1 4 one_few few

-- ---- jobs

-- a job is the plan of its picture, or a slice of it
pub job_is : (b : Book) (j : ℕ) → picture_of_job b j * (rows b + 1) + part_of_job b j ≡ j
job_is b j = div-add-mod' j (rows b + 1)

pub part_small : (b : Book) (j : ℕ) → part_of_job b j < rows b + 1
part_small b j = mod_below j (rows b + 1) (omega arith)

times_below : (q p w : ℕ) → q < p → q * w + w ≤ p * w
times_below q p w lt =
    let k = p - suc q in
    let e : p ≡ q + 1 + k = omega arith in
    let f : p * w ≡ (q + 1 + k) * w = ap (λ n. n * w) e in
    let g : (q + 1 + k) * w ≡ q * w + w + k * w = omega arith in
    omega (arith, f, g)

-- the slices of an earlier picture are lower jobs, and so is its plan
pub slice_below : (b : Book) (j q r : ℕ) → q < picture_of_job b j → r < rows b → slice_job b q r < j
slice_below b j q r lt small = omega (arith, small, times_below q (picture_of_job b j) (rows b + 1) lt, job_is b j)

plan_below : (b : Book) (j q : ℕ) → q < picture_of_job b j → plan_job b q < j
plan_below b j q lt = omega (arith, times_below q (picture_of_job b j) (rows b + 1) lt, job_is b j)

near_small : (r n i : ℕ) → i < min (r + 2) n - (r - 1) → r - 1 + i < n
near_small r n i lt = omega arith

rows_below : (b : Book) (j q from n : ℕ) → q < picture_of_job b j → ((i : ℕ) → i < n → from + i < rows b)
    → All (λ i. i < j) (map (slice_job b q) (range_with_len from n))
rows_below b j q from n lt within =
    All-map (λ i. i < j) (slice_job b q) (range_with_len from n)
    (all_range (λ r. slice_job b q r < j) from n (λ i small. slice_below b j q (from + i) lt (within i small)))

abbrev earlier_slices : Book → ℕ → List ℕ
earlier_slices b p = map (slice_job b (p - 4)) (range_with_len 0 (rows b))

plan_needs : (b : Book) (j : ℕ)
    → All (λ i. i < j) (cond (nat_eq (picture_of_job b j) 0) []
    (plan_job b (picture_of_job b j - 1) ∷ cond (nat_lt (picture_of_job b j) 4) [] (earlier_slices b (picture_of_job b j))))
plan_needs b j =
    let p = picture_of_job b j in
    let below = λ (i : ℕ). i < j in
    cond_both (nat_eq p 0) _ _ (All below) (λ e. All-nil below) (λ e.
    let some = eqb-false p 0 e in
    All-cons below (plan_job b (p - 1)) (cond (nat_lt p 4) [] (earlier_slices b p)) (plan_below b j (p - 1) (omega (arith, some)))
    (cond_both (nat_lt p 4) _ _ (All below) (λ f. All-nil below) (λ f.
    let four = ltb-false p 4 f in
    rows_below b j (p - 4) 0 (rows b) (omega (arith, four)) (λ i small. omega (arith, small)))))

slice_needs : (b : Book) (j : ℕ) → (part_of_job b j ≡ 0 → ⊥)
    → All (λ i. i < j) (plan_job b (picture_of_job b j)
    ∷ flat_map (λ k. map (slice_job b k) (near_rows b (part_of_job b j - 1))) (flat_map in_group (reference_pictures b (picture_of_job b j))))
slice_needs b j some =
    let p = picture_of_job b j in
    let r = part_of_job b j - 1 in
    let below = λ (i : ℕ). i < j in
    let rest = flat_map (λ k. map (slice_job b k) (near_rows b r)) (flat_map in_group (reference_pictures b p)) in
    All-cons below (plan_job b p) rest (omega (arith, job_is b j, some))
    (all_over below (λ q. q < p) (λ k. map (slice_job b k) (near_rows b r)) (flat_map in_group (reference_pictures b p)) (needed_below b p)
    (λ k lt. rows_below b j k (r - 1) (min (r + 2) (rows b) - (r - 1)) lt (near_small r (rows b))))

pub needs_below : (b : Book) (j : ℕ) → j < jobs_of b → All (λ i. i < j) (needs_of b j)
unfolding needs_of
needs_below b j lt =
    cond_both (nat_eq (part_of_job b j) 0) _ _ (All (λ i. i < j)) (λ e. plan_needs b j) (λ e. slice_needs b j (eqb-false (part_of_job b j) 0 e))

-- ---- how many there are

earlier_few : (b : Book) (p : ℕ) → rows b ≤ 72 → length (cond (nat_lt p 4) [] (earlier_slices b p)) ≤ 72
earlier_few b p few =
    cond_both (nat_lt p 4) _ _ (λ (xs : List ℕ). length xs ≤ 72) (λ e. omega arith) (λ e. omega (arith, few, length-map-range_with_len (slice_job b (p - 4)) 0 (rows b)))

plan_few : (b : Book) (p : ℕ) → rows b ≤ 72
    → length (cond (nat_eq p 0) [] (plan_job b (p - 1) ∷ cond (nat_lt p 4) [] (earlier_slices b p))) ≤ 73
plan_few b p few =
    cond_both (nat_eq p 0) _ _ (λ (xs : List ℕ). length xs ≤ 73) (λ e. omega arith) (λ e. omega (arith, earlier_few b p few))

pub slice_few : (b : Book) (p r : ℕ) → length (flat_map (λ k. map (slice_job b k) (near_rows b r)) (flat_map in_group (reference_pictures b p))) ≤ 12
slice_few b p r =
    flat_few (λ k. map (slice_job b k) (near_rows b r)) (flat_map in_group (reference_pictures b p)) 3 4
    (λ k. omega (arith, length-map-range_with_len (slice_job b k) (r - 1) (min (r + 2) (rows b) - (r - 1)))) (needed_few b p)

rows_few : (b : Book) (j : ℕ) → j < jobs_of b → rows b ≤ 72
unfolding jobs_of
rows_few b j lt = elim (cases_Bool (nat_le (rows b) 72)) [
  | inl e ↦ leb-true (rows b) 72 e
  | inr e ↦ absurd (let none : cond (nat_le (rows b) 72) (length b.pictures * (rows b + 1)) 0 ≡ 0 = cond-false (nat_le (rows b) 72) (length b.pictures * (rows b + 1)) 0 e in omega (arith, lt, none))
]

at_most : (n k : ℕ) → n ≤ k → k ≤ 160 → n ≤ 160
at_most n k few small = omega arith

pub needs_few : (b : Book) (j : ℕ) → j < jobs_of b → length (needs_of b j) ≤ 160
unfolding needs_of
needs_few b j lt =
    let p = picture_of_job b j in
    let r = part_of_job b j - 1 in
    let rest = flat_map (λ k. map (slice_job b k) (near_rows b r)) (flat_map in_group (reference_pictures b p)) in
    let slices : length (plan_job b p ∷ rest) ≤ 13 = omega (arith, slice_few b p r) in
    cond_both (nat_eq (part_of_job b j) 0) _ _ (λ (xs : List ℕ). length xs ≤ 160)
    (λ e. at_most _ 73 (plan_few b p (rows_few b j lt)) (omega arith))
    (λ e. at_most _ 13 slices (omega arith))
