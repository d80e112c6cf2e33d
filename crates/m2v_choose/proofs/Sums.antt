-- Sums and lists by number, one more at their end.
use Rattle.std.proofs.Common.{◌≡◌, ◌≢◌, ℕ, zero, suc, ◌+◌, ◌*◌, ◌<◌, ◌≤◌, length, set, get_or, map, subst, below_more, get_or-set_other, get_or-set_same, List, [], ◌∷◌, ◌++◌, ap, sym, refl, ◌∙◌, arith, add-zero}
use Rattle.std.specs.List.{range_with_len, sum_by}
use Rattle.std.specs.Simd.Lanes.{sum_l}
use Rattle.std.specs.Prelude.{slice_index}
use Rattle.std.proofs.lemmas.List.{length-map, map-set}
use Rattle.std.proofs.lemmas.List.FromFn.{fill_by_all}
use Rattle.std.proofs.lemmas.List.Sums.{sum_by_push, sum_by-cons}

range_more : (a n : ℕ) → range_with_len a (suc n) ≡ range_with_len a n ++ (a + n) ∷ []
range_more a zero = rw add-zero refl
range_more a (suc n) =
    let same : a + 1 + n ≡ a + suc n = omega arith in
    ap (λ (xs : List ℕ). a ∷ xs) (range_more (a + 1) n ∙ ap (λ (k : ℕ). range_with_len (a + 1) n ++ k ∷ []) same)

pub sum_more : (f : ℕ → ℕ) (n : ℕ) → sum_by f (range_with_len 0 (n + 1)) ≡ sum_by f (range_with_len 0 n) + f n
sum_more f n =
    let e : n + 1 ≡ suc n = omega arith in
    let zero_more : 0 + n ≡ n = omega arith in
    ap (λ (k : ℕ). sum_by f (range_with_len 0 k)) e ∙ ap (sum_by f) (range_more 0 n) ∙ sum_by_push f (range_with_len 0 n) (0 + n) ∙ ap (λ (k : ℕ). sum_by f (range_with_len 0 n) + f k) zero_more

pub sum_same : {A : Type 0} (f g : A → ℕ) (xs : List A) → ((x : A) → f x ≡ g x) → sum_by f xs ≡ sum_by g xs
sum_same f g [] h = refl
sum_same f g (x ∷ xs) h = sum_by-cons f x xs ∙ ap (λ (k : ℕ). k + sum_by f xs) (h x) ∙ ap (λ (k : ℕ). g x + k) (sum_same f g xs h) ∙ sym (sum_by-cons g x xs)

-- one more element is written
pub set_next : {A : Type 0} (P : ℕ → A → Type 0) (xs : List A) (d : A) (n : ℕ) (v : A) → n < length xs → ((k : ℕ) → k < n → P k (get_or xs k d)) → P n v
    → (k : ℕ) → k < n + 1 → P k (get_or (set xs n v) k d)
set_next P xs d n v inside h here =
    below_more (λ k. P k (get_or (set xs n v) k d)) n
    (λ k l. let ne : k ≢ n = omega arith in rw get_or-set_other (h k l))
    (rw get_or-set_same here)

-- the same of two lists at once
pub set_both : {A B : Type 0} (P : ℕ → A → B → Type 0) (xs : List A) (d : A) (ys : List B) (e : B) (n : ℕ) (v : A) (w : B) → n < length xs → n < length ys
    → ((k : ℕ) → k < n → P k (get_or xs k d) (get_or ys k e)) → P n v w → (k : ℕ) → k < n + 1 → P k (get_or (set xs n v) k d) (get_or (set ys n w) k e)
set_both P xs d ys e n v w inside within h here =
    below_more (λ k. P k (get_or (set xs n v) k d) (get_or (set ys n w) k e)) n
    (λ k l. let ne : k ≢ n = omega arith in rw (get_or-set_other xs n k v d ne, get_or-set_other ys n k w e ne) (h k l))
    (rw (get_or-set_same xs n v d inside, get_or-set_same ys n w e within) here)

-- the same, of what each element holds
pub set_next_of : {A B : Type 0} (f : A → B) (P : ℕ → B → Type 0) (xs : List A) (d : B) (n : ℕ) (v : A) → n < length xs → ((k : ℕ) → k < n → P k (get_or (map f xs) k d)) → P n (f v)
    → (k : ℕ) → k < n + 1 → P k (get_or (map f (set xs n v)) k d)
set_next_of {B = B} f P xs d n v inside h here k lt =
    let len : length (map f xs) ≡ length xs = length-map xs f in
    subst (λ (ys : List B). P k (get_or ys k d)) (sym (map-set f xs n v)) (set_next P (map f xs) d n (f v) (omega (arith, len)) h here k lt)

-- ---- lanes

sum_lanes : (f : ℕ → ℕ) (xs : List ℕ) → sum_l (map f xs) ≡ sum_by f xs
sum_lanes f [] = refl
sum_lanes f (x ∷ xs) = omega (arith, sum_lanes f xs, sum_by-cons f x xs)

pub lanes_sum : (f : ℕ → ℕ) (xs : List ℕ) (n : ℕ) → length xs ≡ n → ((k : ℕ) → k < n → get_or xs k 0 ≡ f k) → sum_l xs ≡ sum_by f (range_with_len 0 n)
lanes_sum f xs n len h = ap sum_l (fill_by_all f xs n 0 len h) ∙ sum_lanes f (range_with_len 0 n)

-- of squares of samples' differences
pub lanes_most : (xs : List ℕ) → ((k : ℕ) → k < length xs → get_or xs k 0 ≤ 65025) → sum_l xs ≤ 65025 * length xs
lanes_most [] h = omega arith
lanes_most (x ∷ xs) h =
    let l : length (x ∷ xs) ≡ length xs + 1 = omega arith in
    omega (arith, l, h 0 (omega (arith, l)), lanes_most xs (λ k lt. h (suc k) (omega (arith, lt, l))))

-- ---- six of them

pub six_places : (P : ℕ → ℕ → Type 0) (a b c d e g : ℕ) → P 0 a → P 1 b → P 2 c → P 3 d → P 4 e → P 5 g → (k : ℕ) → k < 6 → P k (slice_index (a ∷ b ∷ c ∷ d ∷ e ∷ g ∷ []) k)
six_places P a b c d e g p0 p1 p2 p3 p4 p5 zero lt = p0
six_places P a b c d e g p0 p1 p2 p3 p4 p5 (suc zero) lt = p1
six_places P a b c d e g p0 p1 p2 p3 p4 p5 (suc (suc zero)) lt = p2
six_places P a b c d e g p0 p1 p2 p3 p4 p5 (suc (suc (suc zero))) lt = p3
six_places P a b c d e g p0 p1 p2 p3 p4 p5 (suc (suc (suc (suc zero)))) lt = p4
six_places P a b c d e g p0 p1 p2 p3 p4 p5 (suc (suc (suc (suc (suc zero))))) lt = p5
six_places P a b c d e g p0 p1 p2 p3 p4 p5 (suc (suc (suc (suc (suc (suc n)))))) lt = absurd (omega (arith, lt))
