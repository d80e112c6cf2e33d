-- What operations on lanes leave, in lists of whole numbers.
use Rattle.std.proofs.Common.{◌≡◌, ℕ, suc, ◌^◌, ◌+◌, ◌*◌, ◌<◌, ◌≤◌, ◌∙◌, List, [], ◌∷◌, ◌++◌, All, length, map, get_or, replicate, arith, refl, ℤ, pos, negsuc, ◌+ℤ◌, ◌-ℤ◌, ◌*ℤ◌}
use Rattle.std.specs.Int.{int_shr}
use Rattle.std.proofs.Math.Nat.{mul-le-mul_left, mul-le-mul_right}
use Rattle.std.proofs.lemmas.Int.{ints}
use Rattle.std.proofs.lemmas.List.Elements.{All-cons, All-from_recursion, All-head, All-nil, All-tail}
use lib.Lanes.{zip2, Each2}
use borrow.Rule.Simd.Lanes.{act2}
use borrow.Table.Row.{s_int}
use mir.Syntax.{w32, shr, signed}
use mir.Val.{SFits, to_z, of_z}
use Rattle.m2v_idct.specs.Ranges.{Within}
use Rattle.m2v_idct.specs.RowSums.{both_ways}
use Rattle.m2v_idct.proofs.AllLanes.{both_are, both_asked, fits_word, shifted_by, wider}
use Rattle.m2v_idct.proofs.Passed.{passed}
use Rattle.m2v_idct.proofs.Shifts.{shr8}

-- an operation on two lanes whose result fits
module _ (n m k : ℕ) (f : ℤ → ℤ → ℤ) (bound : (a b : ℤ) → Within n a → Within m b → Within k (f a b)) (sn : n < 2 ^ 31) (sm : m < 2 ^ 31) (sk : k < 2 ^ 31) where
  pub asked : (xs ys : List ℤ) → All (Within n) xs → All (Within m) ys → Each2 (λ (a b : ℕ). SFits w32 (f (to_z w32 a) (to_z w32 b))) (map (of_z w32) xs) (map (of_z w32) ys)
  asked = both_asked w32 2147483647 fits_word n m k f bound (omega arith) (omega arith) (omega arith)

  pub zipped : (xs ys : List ℤ) → All (Within n) xs → All (Within m) ys → map (to_z w32) (zip2 (λ (a b : ℕ). of_z w32 (f (to_z w32 a) (to_z w32 b))) (map (of_z w32) xs) (map (of_z w32) ys)) ≡ zip2 f xs ys
  zipped = both_are w32 2147483647 fits_word n m k f bound (omega arith) (omega arith) (omega arith)

  pub zipped_within : (xs ys : List ℤ) → All (Within n) xs → All (Within m) ys → All (Within k) (zip2 f xs ys)
  zipped_within [] ys hx hy = All-nil (Within k)
  zipped_within (x ∷ xs) [] hx hy = All-nil (Within k)
  zipped_within (x ∷ xs) (y ∷ ys) hx hy =
      All-cons (Within k) (f x y) (zip2 f xs ys) (bound x y (All-head (Within n) x xs hx) (All-head (Within m) y ys hy))
      (zipped_within xs ys (All-tail (Within n) x xs hx) (All-tail (Within m) y ys hy))

-- bounds of a sum, a difference and a product
pub sum_bound : (n m k : ℕ) → n + m ≤ k → (a b : ℤ) → Within n a → Within m b → Within k (a +ℤ b)
sum_bound n m k le a b ha hb = (omega (arith, ints, ha, hb), omega (arith, ints, ha, hb))

pub difference_bound : (n m k : ℕ) → n + m ≤ k → (a b : ℤ) → Within n a → Within m b → Within k (a -ℤ b)
difference_bound n m k le a b ha hb = (omega (arith, ints, ha, hb), omega (arith, ints, ha, hb))

both_small : (a b n m k : ℕ) → n * m ≤ k → a ≤ n → b ≤ m → a * b ≤ k
both_small a b n m k le la lb = omega (arith, le, mul-le-mul_left a lb, mul-le-mul_right m la)

pub product_bound : (n m k : ℕ) → n * m ≤ k → (a b : ℤ) → Within n a → Within m b → Within k (a *ℤ b)
product_bound n m k le (pos a) (pos b) ha hb =
    let p = both_small a b n m k le (omega (arith, ints, ha)) (omega (arith, ints, hb)) in
    (omega (arith, ints, p), omega (arith, ints, p))
product_bound n m k le (pos a) (negsuc b) ha hb =
    let p = both_small a (suc b) n m k le (omega (arith, ints, ha)) (omega (arith, ints, hb)) in
    (omega (arith, ints, p), omega (arith, ints, p))
product_bound n m k le (negsuc a) (pos b) ha hb =
    let p = both_small (suc a) b n m k le (omega (arith, ints, ha)) (omega (arith, ints, hb)) in
    (omega (arith, ints, p), omega (arith, ints, p))
product_bound n m k le (negsuc a) (negsuc b) ha hb =
    let p = both_small (suc a) (suc b) n m k le (omega (arith, ints, ha)) (omega (arith, ints, hb)) in
    (omega (arith, ints, p), omega (arith, ints, p))

-- lanes shifted by eight
shift_within : (a : ℤ) → Within 2000000000 a → Within 1000000000 (int_shr a 8)
shift_within a h = let b = shr8 a in (omega (arith, ints, h, b), omega (arith, ints, h, b))

pub shifts : (n : ℕ) (xs : List ℤ) → length xs ≡ n → All (Within 2000000000) xs
    → map (to_z w32) (zip2 (act2 (shr signed) (s_int w32) (s_int w32) (s_int w32)) (map (of_z w32) xs) (replicate n 8)) ≡ map (λ a. int_shr a 8) xs
shifts n xs e h = shifted_by 8 (λ a. refl) n xs e (wider 2000000000 2147483647 (omega arith) xs h)

pub shifts_within : (xs : List ℤ) → All (Within 2000000000) xs → All (Within 1000000000) (map (λ a. int_shr a 8) xs)
shifts_within [] h = All-nil (Within 1000000000)
shifts_within (x ∷ xs) h =
    All-cons (Within 1000000000) (int_shr x 8) (map (λ a. int_shr a 8) xs) (shift_within x (All-head (Within 2000000000) x xs h))
    (shifts_within xs (All-tail (Within 2000000000) x xs h))

-- four numbers by their places
pub four_listed : (xs : List ℤ) → length xs ≡ 4 → xs ≡ get_or xs 0 (pos 0) ∷ get_or xs 1 (pos 0) ∷ get_or xs 2 (pos 0) ∷ get_or xs 3 (pos 0) ∷ []
four_listed [] e = absurd (omega arith)
four_listed (a ∷ []) e = absurd (omega arith)
four_listed (a ∷ b ∷ []) e = absurd (omega arith)
four_listed (a ∷ b ∷ c ∷ []) e = absurd (omega arith)
four_listed (a ∷ b ∷ c ∷ d ∷ []) e = refl
four_listed (a ∷ b ∷ c ∷ d ∷ x ∷ xs) e = absurd (omega arith)

abbrev told : List ℤ → List ℤ → ℕ → ℤ
told left right k = to_z w32 (get_or (map (of_z w32) left ++ map (of_z w32) right) k 0)

pub joined_is : (left right : List ℤ) → length left ≡ 4 → length right ≡ 4 → All (Within 1000000000) left → All (Within 1000000000) right
    → told left right 0 ∷ told left right 1 ∷ told left right 2 ∷ told left right 3
    ∷ told left right 7 ∷ told left right 6 ∷ told left right 5 ∷ told left right 4 ∷ []
    ≡ both_ways left right
joined_is left right ll lr hl hr =
    let p = λ (xs : List ℤ) (k : ℕ) (lt : k < length xs) (h : All (Within 1000000000) xs). passed 1000000000 (get_or xs k (pos 0)) (omega arith) (h k (pos 0) lt) in
    let l0 = p left 0 (omega arith) hl in let l1 = p left 1 (omega arith) hl in let l2 = p left 2 (omega arith) hl in let l3 = p left 3 (omega arith) hl in
    let r0 = p right 0 (omega arith) hr in let r1 = p right 1 (omega arith) hr in let r2 = p right 2 (omega arith) hr in let r3 = p right 3 (omega arith) hr in
    (λ i. told (four_listed left ll i) (four_listed right lr i) 0 ∷ told (four_listed left ll i) (four_listed right lr i) 1
    ∷ told (four_listed left ll i) (four_listed right lr i) 2 ∷ told (four_listed left ll i) (four_listed right lr i) 3
    ∷ told (four_listed left ll i) (four_listed right lr i) 7 ∷ told (four_listed left ll i) (four_listed right lr i) 6
    ∷ told (four_listed left ll i) (four_listed right lr i) 5 ∷ told (four_listed left ll i) (four_listed right lr i) 4 ∷ [])
    ∙ (λ i. l0 i ∷ l1 i ∷ l2 i ∷ l3 i ∷ r3 i ∷ r2 i ∷ r1 i ∷ r0 i ∷ [])

-- four numbers that are told
pub four_within : (k : ℕ) (a b c d : ℤ) → Within k a → Within k b → Within k c → Within k d → All (Within k) (a ∷ b ∷ c ∷ d ∷ [])
four_within k a b c d ha hb hc hd = All-from_recursion (Within k) (a ∷ b ∷ c ∷ d ∷ []) (ha, (hb, (hc, (hd, tt))))
