-- Where the squares of a block's differences are few, no coefficient lies far from 0.
use Rattle.std.proofs.Common.{◌≡◌, inl, inr, ℕ, zero, suc, ◌+◌, ◌-◌, ◌*◌, ◌/◌, ◌%◌, ◌^◌, ◌≤◌, ◌<◌, Bool, List, replicate, arith, refl, ap, sym, subst, ◌∙◌, ℤ, pos, negsuc, ◌+ℤ◌, ◌-ℤ◌, ◌*ℤ◌}
use Rattle.std.specs.Prelude.{unsigned_abs, slice_index, sum_by}
use Rattle.std.specs.List.{range_with_len}
use Rattle.std.proofs.Math.Nat.{le_of_mul-le-mul_left, mul-le-mul_left, pow-suc, pow-zero, one-mul}
use Rattle.std.proofs.lemmas.Bool.{cases_lt, lt-ltb, le-ltb}
use Rattle.std.proofs.lemmas.Int.{ints, unsigned_abs-mul}
use Rattle.std.proofs.lemmas.List.{get_or-replicate}
use Rattle.std.proofs.lemmas.List.FromFn.{get_or-map-range_with_len}
use Rattle.m2v_kernel.specs.Sums.{apart}
use Rattle.m2v_idct.specs.Block.{at, nth}
use Rattle.m2v_idct.specs.Forward.{cosine, forward_at, forward_of, projection, rounded}
use Rattle.m2v_idct.specs.Sums.{sum_below}
use Rattle.m2v_idct.proofs.ForwardSums.{forward_by_lines}
use Rattle.m2v_idct.proofs.Projections.{eight_cases}
use Rattle.m2v_idct.proofs.Shifts.{shr26_low, shr26_high}
use Rattle.m2v_recon.specs.Steps.{luma_place}
use Rattle.m2v_choose.specs.Choice.{square_at}
use Rattle.m2v_choose.specs.Decisions.{block_place, differences}
use Rattle.m2v_choose.specs.Trials.{block_squared, difference_at, AreBelow, HaveSame}
use Rattle.m2v_choose.proofs.Sums.{sum_more}

-- f 0 + f 1 + .. + f (n - 1)
total : ℕ → (ℕ → ℕ) → ℕ
total zero f = 0
total (suc n) f = total n f + f n

total_same : (n : ℕ) (f g : ℕ → ℕ) → ((k : ℕ) → k < n → f k ≡ g k) → total n f ≡ total n g
unfolding total
total_same zero f g h = refl
total_same (suc n) f g h = omega (arith, total_same n f g (λ k lt. h k (omega (arith, lt))), h n (omega arith))

total_most : (n : ℕ) (f g : ℕ → ℕ) → ((k : ℕ) → k < n → f k ≤ g k) → total n f ≤ total n g
unfolding total
total_most zero f g h = omega arith
total_most (suc n) f g h = omega (arith, total_most n f g (λ k lt. h k (omega (arith, lt))), h n (omega arith))

total_times : (n c : ℕ) (f : ℕ → ℕ) → total n (λ k. c * f k) ≡ c * total n f
unfolding total
total_times zero c f = omega arith
total_times (suc n) c f = omega (arith, total_times n c f)

-- twice a product is at most the sum of the squares
up : (x k : ℕ) → 2 * (x * (x + k)) ≤ x * x + (x + k) * (x + k)
up x k = omega arith

down : (x k : ℕ) → 2 * ((x + k) * x) ≤ (x + k) * (x + k) + x * x
down x k = omega arith

two_squares : (x y : ℕ) → 2 * (x * y) ≤ x * x + y * y
two_squares x y = elim (cases_lt x y) [
  | inl lt ↦ let e : x + (y - x) ≡ y = omega (arith, lt) in subst (λ (z : ℕ). 2 * (x * z) ≤ x * x + z * z) e (up x (y - x))
  | inr ge ↦ let e : y + (x - y) ≡ x = omega (arith, ge) in subst (λ (z : ℕ). 2 * (z * y) ≤ z * z + y * y) e (down y (x - y))
]

module _ (f g : ℕ → ℕ) where
  weighted : (n a b : ℕ) → 2 * (a * b) * total n (λ k. f k * g k) ≤ a * a * total n (λ k. f k * f k) + b * b * total n (λ k. g k * g k)
  unfolding total
  weighted zero a b = omega arith
  weighted (suc n) a b = omega (arith, weighted n a b, two_squares (a * f n) (b * g n))

  -- the square of a sum of products is at most the product of the sums of squares
  sized : (s c t : ℕ) → 2 * (s * c) * s ≤ s * s * c + c * c * t → c * (s * s) ≤ c * (c * t)
  sized s c t h = omega (arith, h)

  schwarz : (n : ℕ) → 0 < total n (λ k. f k * f k)
      → total n (λ k. f k * g k) * total n (λ k. f k * g k) ≤ total n (λ k. f k * f k) * total n (λ k. g k * g k)
  schwarz n some =
      let s = total n (λ k. f k * g k) in let c = total n (λ k. f k * f k) in let t = total n (λ k. g k * g k) in
      le_of_mul-le-mul_left (sized s c t (weighted n s c)) some

-- the size of a sum
size_plus : (a b : ℤ) → unsigned_abs (a +ℤ b) ≤ unsigned_abs a + unsigned_abs b
size_plus (pos a) (pos b) = omega (arith, ints)
size_plus (pos a) (negsuc b) = omega (arith, ints)
size_plus (negsuc a) (pos b) = omega (arith, ints)
size_plus (negsuc a) (negsuc b) = omega (arith, ints)

size_sum : (n : ℕ) (g : ℕ → ℤ) → unsigned_abs (sum_below n g) ≤ total n (λ k. unsigned_abs (g k))
unfolding total sum_below
size_sum zero g = omega arith
size_sum (suc n) g = omega (arith, size_sum n g, size_plus (sum_below n g) (g n))

-- cosines, and their squares
abbrev size_of : ℕ → ℕ → ℕ
size_of u k = unsigned_abs (cosine u k)

abbrev squares_of : ℕ → ℕ
squares_of u = total 8 (λ k. size_of u k * size_of u k)

squares_least : (u : ℕ) → u < 8 → 0 < squares_of u
unfolding total cosine
squares_least = eight_cases (λ u. 0 < squares_of u) (omega arith) (omega arith) (omega arith) (omega arith) (omega arith) (omega arith) (omega arith) (omega arith)

squares_most : (u : ℕ) → u < 8 → squares_of u ≤ 67111404
unfolding total cosine
squares_most = eight_cases (λ u. squares_of u ≤ 67111404) (omega arith) (omega arith) (omega arith) (omega arith) (omega arith) (omega arith) (omega arith) (omega arith)

-- so the square of a projection is little more than the squares of what is projected
squares_by : (g : ℕ → ℤ) → ℕ
squares_by g = total 8 (λ k. unsigned_abs (g k) * unsigned_abs (g k))

below_square : (a b c : ℕ) → a ≤ b → b * b ≤ c → a * a ≤ c
below_square a b c le h = let k = b - a in let e : a + k ≡ b = omega (arith, le) in omega (arith, subst (λ (z : ℕ). z * z ≤ c) (sym e) h)

projected : (u : ℕ) → u < 8 → (g : ℕ → ℤ) → unsigned_abs (projection u g) * unsigned_abs (projection u g) ≤ 67111404 * squares_by g
unfolding projection squares_by
projected u lt g =
    let m = λ (k : ℕ). unsigned_abs (g k) in
    let s = total 8 (λ k. size_of u k * m k) in
    let same : total 8 (λ k. unsigned_abs (cosine u k *ℤ g k)) ≡ s = total_same 8 _ (λ k. size_of u k * m k) (λ k l. unsigned_abs-mul (cosine u k) (g k)) in
    let le : unsigned_abs (projection u g) ≤ s = omega (arith, size_sum 8 (λ k. cosine u k *ℤ g k), same) in
    let most : s * s ≤ squares_of u * squares_by g = schwarz (size_of u) m 8 (squares_least u lt) in
    let wide : squares_by g * squares_of u ≤ squares_by g * 67111404 = mul-le-mul_left (squares_by g) (squares_most u lt) in
    below_square (unsigned_abs (projection u g)) s (67111404 * squares_by g) le (omega (arith, most, wide))

-- the squares of a block
energy : List ℤ → ℕ
energy f = total 8 (λ y. squares_by (at f y))

twice : (f : List ℤ) (v u : ℕ) → v < 8 → u < 8
    → unsigned_abs (projection v (λ y. projection u (at f y))) * unsigned_abs (projection v (λ y. projection u (at f y))) ≤ 67111404 * (67111404 * energy f)
unfolding energy squares_by
twice f v u lv lu =
    let rows = λ (y : ℕ). projection u (at f y) in
    let first : unsigned_abs (projection v rows) * unsigned_abs (projection v rows) ≤ 67111404 * squares_by rows = projected v lv rows in
    let each : squares_by rows ≤ 67111404 * energy f =
    subst (λ (n : ℕ). squares_by rows ≤ n) (total_times 8 67111404 (λ y. squares_by (at f y)))
    (total_most 8 (λ y. unsigned_abs (rows y) * unsigned_abs (rows y)) (λ y. 67111404 * squares_by (at f y)) (λ y ly. projected u lu (at f y))) in
    omega (arith, first, each)

-- a sum that rounds to a number of this size
size_rounded : (l : ℕ) (z : ℤ) → 1 ≤ l → l ≤ unsigned_abs (rounded z) → 67108864 * l ≤ unsigned_abs z + 33554432
size_rounded l z some h = let a = shr26_low (z +ℤ pos 33554432) in let b = shr26_high (z +ℤ pos 33554432) in omega (arith, ints, some, h, a, b)

-- so no coefficient is as large, where the squares are fewer than its size times one less
contrary : (k t e : ℕ) → k ≤ 61 → e < (k + 1) * k → 67108864 * (k + 1) ≤ t + 33554432 → t * t ≤ 67111404 * (67111404 * e) → 1 ≤ 0
contrary k t e small few far most =
    let n = 33554432 * (2 * k + 1) in
    let le : n ≤ t = omega (arith, far) in
    let sq : n * n ≤ 67111404 * (67111404 * e) = below_square n t (67111404 * (67111404 * e)) le most in
    let kk : k * k ≤ k * 61 = mul-le-mul_left k small in
    omega (arith, sq, kk, few, small)

positive : (l : ℕ) {e : ℕ} → e < l * (l - 1) → 1 ≤ l
positive zero h = absurd (omega (arith, h))
positive (suc l) h = omega arith

near_after : (f : List ℤ) (k : ℕ) → k ≤ 61 → energy f < (k + 1) * k → (v u : ℕ) → v < 8 → u < 8 → unsigned_abs (forward_at f v u) < k + 1
near_after f k small few v u lv lu = elim (cases_lt (unsigned_abs (forward_at f v u)) (k + 1)) [
  | inl lt ↦ lt
  | inr ge ↦
      let z = projection v (λ y. projection u (at f y)) in
      let ge' : k + 1 ≤ unsigned_abs (rounded z) = subst (λ (c : ℤ). k + 1 ≤ unsigned_abs c) (forward_by_lines f v u) ge in
      absurd (omega (arith, contrary k (unsigned_abs z) (energy f) small few (size_rounded (k + 1) z (omega arith) ge') (twice f v u lv lu)))
]

near : (f : List ℤ) (l : ℕ) → l ≤ 62 → energy f < l * (l - 1) → (k : ℕ) → k < 64 → unsigned_abs (nth (forward_of f) k) < l
unfolding forward_of
near f l small few k lt =
    let some : 1 ≤ l = positive l few in
    let e : l - 1 + 1 ≡ l = omega (arith, some) in
    let there : nth (forward_of f) k ≡ forward_at f (k / 8) (k % 8) = get_or-map-range_with_len (λ (j : ℕ). forward_at f (j / 8) (j % 8)) 0 64 k k (pos 0) lt (omega arith) in
    let less : energy f < (l - 1 + 1) * (l - 1) = subst (λ (n : ℕ). energy f < n * (l - 1)) (sym e) few in
    let small' : unsigned_abs (forward_at f (k / 8) (k % 8)) < l - 1 + 1 = near_after f (l - 1) (omega (arith, small)) less (k / 8) (k % 8) (omega (arith, lt)) (omega arith) in
    subst (λ (z : ℤ). unsigned_abs z < l) (sym there) (omega (arith, small', e))

-- the squares of a block, by sums of lists
square_is : (a : ℕ) → a ^ 2 ≡ a * a
square_is a = pow-suc a 1 ∙ ap (λ (k : ℕ). k * a) (pow-suc a 0 ∙ ap (λ (k : ℕ). k * a) (pow-zero a) ∙ one-mul a)

sum_total : (n : ℕ) (f : ℕ → ℕ) → sum_by f (range_with_len 0 n) ≡ total n f
unfolding total
sum_total zero f = refl
sum_total (suc n) f =
    let e : suc n ≡ n + 1 = omega arith in
    ap (λ (k : ℕ). sum_by f (range_with_len 0 k)) e ∙ sum_more f n ∙ ap (λ (k : ℕ). k + f n) (sum_total n f)

size_apart : (a b : ℕ) → unsigned_abs (pos a -ℤ pos b) ≡ apart a b
size_apart a b = omega (arith, ints)

place_more : (dct : Bool) (b y x : ℕ) → x < 8 → block_place dct b (8 * y + x) ≡ block_place dct b (8 * y) + x
unfolding block_place
place_more dct b y x lt = elim (cases_lt b 4) [
  | inl luma ↦
      let e : (8 * y + x) / 8 ≡ y = omega (arith, lt) in
      let f : (8 * y + x) % 8 ≡ x = omega (arith, lt) in
      let g : 8 * y / 8 ≡ y = omega arith in
      let h : 8 * y % 8 ≡ 0 = omega arith in
      let join : luma_place dct b y + x ≡ luma_place dct b y + 0 + x = omega arith in
      rw (lt-ltb b 4 luma) ((λ i. luma_place dct b (e i) + f i) ∙ join ∙ sym (λ i. luma_place dct b (g i) + h i + x))
  | inr chroma ↦ rw (le-ltb b 4 chroma) (omega arith)
]

module _ (dct : Bool) (s p : List ℕ) (b : ℕ) where
  one : (y x : ℕ) → y < 8 → x < 8 → unsigned_abs (at (differences s p dct b) y x) * unsigned_abs (at (differences s p dct b) y x) ≡ square_at s p (block_place dct b (8 * y) + x)
  unfolding differences
  one y x ly lx =
      let k = 8 * y + x in
      let there : at (differences s p dct b) y x ≡ difference_at s p dct b k = get_or-map-range_with_len (difference_at s p dct b) 0 64 k k (pos 0) (omega (arith, ly, lx)) (omega arith) in
      let size : unsigned_abs (at (differences s p dct b) y x) ≡ apart (slice_index s (block_place dct b k)) (slice_index p (block_place dct b k)) =
      ap unsigned_abs there ∙ size_apart (slice_index s (block_place dct b k)) (slice_index p (block_place dct b k)) in
      (λ i. size i * size i) ∙ sym (square_is (apart (slice_index s (block_place dct b k)) (slice_index p (block_place dct b k)))) ∙ ap (square_at s p) (place_more dct b y x lx)

  -- they are the squares of its samples
  energy_is : energy (differences s p dct b) ≡ block_squared dct s p b
  unfolding energy squares_by block_squared
  energy_is =
      let line = λ (y : ℕ). sum_by (λ c. square_at s p (block_place dct b (8 * y) + c)) (range_with_len 0 8) in
      total_same 8 _ line
      (λ y ly. total_same 8 _ (λ c. square_at s p (block_place dct b (8 * y) + c)) (λ x lx. one y x ly lx) ∙ sym (sum_total 8 (λ c. square_at s p (block_place dct b (8 * y) + c))))
      ∙ sym (sum_total 8 line)

  pub few_near : (l : ℕ) → l ≤ 62 → block_squared dct s p b < l * (l - 1) → AreBelow l (forward_of (differences s p dct b))
  few_near l small few = near (differences s p dct b) l small (subst (λ (n : ℕ). n < l * (l - 1)) (sym energy_is) few)

-- what has the same levels still has where a level needs a coefficient that lies farther
pub same_farther : (l m : ℕ) → l ≤ m → (fs gs : List (List ℤ)) → HaveSame l fs gs → HaveSame m fs gs
same_farther l m le fs gs h = record {
  at = λ b lt. elim (h.at b lt) [
    | inl e ↦ inl e
    | inr both ↦ inr ((λ k small. omega (arith, both.0 k small, le)), (λ k small. omega (arith, both.1 k small, le)))
  ];
}

-- a block of zeros
zero_there : (k : ℕ) → k < 64 → nth (replicate 64 (pos 0)) k ≡ pos 0
zero_there k lt = get_or-replicate 64 k (pos 0) (pos 0) lt

pub none_near : (l : ℕ) → 2 ≤ l → AreBelow l (replicate 64 (pos 0))
none_near l some k lt = subst (λ (z : ℤ). unsigned_abs z < l) (sym (zero_there k lt)) (omega (arith, some))

pub none_far : (k : ℕ) → k < 64 → unsigned_abs (nth (replicate 64 (pos 0)) k) ≤ 0
none_far k lt = subst (λ (z : ℤ). unsigned_abs z ≤ 0) (sym (zero_there k lt)) (omega arith)
