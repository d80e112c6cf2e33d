-- Lanes of any width that are passed or computed stand in a goal as their bits, read again; what operations on them leave.
use Rattle.std.proofs.Common.{zero, suc, replicate, ◌≡◌, ℕ, ◌<◌, ◌≤◌, ◌+◌, ◌-◌, ◌*◌, ◌^◌, ◌++◌, ◌+ℤ◌, ◌∙◌, List, [], ◌∷◌, All, length, map, get_or, arith, refl, ap, ℤ, pos, negsuc}
use Rattle.std.proofs.lemmas.Int.{ints, to_z-of_z}
use Rattle.std.proofs.lemmas.List.Elements.{All-head, All-replicate, All-same, All-tail, All-weaker}
use lib.Lanes.{zip2, Each1, Each2}
use borrow.Rule.Simd.Lanes.{act1, act2, Asks1}
use borrow.Table.Row.{s_int}
use mir.Syntax.{Width, w16, w32, cast, shr, signed}
use native.Mathlib.Nat.{suc_inj}
use Rattle.std.specs.Int.{int_shr}
use Rattle.std.specs.Int.Signed.{mag_shr}
use mir.Val.{SFits, to_z, of_z}
use Rattle.m2v_idct.specs.ForwardLanes.{eight, neighbours}
use Rattle.m2v_idct.specs.Ranges.{Within}
use Rattle.m2v_idct.proofs.InPlace.{all_listed}
use Rattle.m2v_idct.proofs.Passed.{fits, passed}
use Rattle.m2v_idct.proofs.Projections.{eight_at}
use Rattle.std.proofs.lemmas.List.{ext_get_or, get_or-append_right, get_or-map, get_or_append_left, length-map}

pub fits_short : (z : ℤ) → Within 32767 z → SFits w16 z
fits_short (pos a) h = record { sfits = omega (arith, ints, h.0, h.1) }
fits_short (negsuc a) h = record { sfits = omega (arith, ints, h.0, h.1) }

pub fits_word : (z : ℤ) → Within 2147483647 z → SFits w32 z
fits_word z h = fits 2147483647 z (omega arith) h

pub wider : (n m : ℕ) → n ≤ m → (xs : List ℤ) → All (Within n) xs → All (Within m) xs
wider n m le xs h = All-weaker (Within n) (Within m) (λ z w. (omega (arith, ints, w), omega (arith, ints, w))) xs h

module _ (w : Width) (most : ℕ) (holds : (z : ℤ) → Within most z → SFits w z) where
  abbrev pub told : List ℤ → List ℤ
  told xs = map (to_z w) (map (of_z w) xs)

  pub passed_in : (z : ℤ) → Within most z → to_z w (of_z w z) ≡ z
  passed_in z h = to_z-of_z w z (holds z h)

  pub told_is : (xs : List ℤ) → All (Within most) xs → told xs ≡ xs
  told_is [] h = refl
  told_is (x ∷ xs) h = λ i. passed_in x (All-head (Within most) x xs h) i ∷ told_is xs (All-tail (Within most) x xs h) i

  pub told_within : (n : ℕ) (xs : List ℤ) → n ≤ most → All (Within n) xs → All (Within n) (told xs)
  told_within n xs le h = All-same (Within n) (told xs) xs (told_is xs (wider n most le xs h)) h

  -- what is known of a vector, of what is passed on
  pub told_as : (n : ℕ) (xs ys : List ℤ) → n ≤ most → xs ≡ ys → All (Within n) ys → told xs ≡ ys
  told_as n xs ys le e h = ap told e ∙ told_is ys (wider n most le ys h)

  pub told_as_within : (n : ℕ) (xs ys : List ℤ) → n ≤ most → xs ≡ ys → All (Within n) ys → All (Within n) (told xs)
  told_as_within n xs ys le e h = All-same (Within n) (told xs) ys (told_as n xs ys le e h) h

  -- a lane of two vectors, one behind the other
  pub left_lane : (xs ys : List ℤ) (k : ℕ) → k < length xs → All (Within most) xs
      → to_z w (get_or (map (of_z w) xs ++ map (of_z w) ys) k 0) ≡ get_or xs k (pos 0)
  left_lane xs ys k lt h =
      ap (to_z w) (get_or_append_left (map (of_z w) xs) (map (of_z w) ys) 0 k (rw length-map lt) ∙ get_or-map (of_z w) xs k (pos 0) 0 lt)
      ∙ passed_in (get_or xs k (pos 0)) (h k (pos 0) lt)

  pub right_lane : (n : ℕ) (xs ys : List ℤ) (k : ℕ) → length xs ≡ n → n ≤ k → k - n < length ys → All (Within most) ys
      → to_z w (get_or (map (of_z w) xs ++ map (of_z w) ys) k 0) ≡ get_or ys (k - n) (pos 0)
  right_lane n xs ys k e le lt h =
      ap (to_z w) (get_or-append_right (map (of_z w) xs) (map (of_z w) ys) n k 0 (rw length-map e) le ∙ get_or-map (of_z w) ys (k - n) (pos 0) 0 lt)
      ∙ passed_in (get_or ys (k - n) (pos 0)) (h (k - n) (pos 0) lt)

  -- an operation on two lanes whose result fits
  module _ (n m k : ℕ) (f : ℤ → ℤ → ℤ) (bound : (a b : ℤ) → Within n a → Within m b → Within k (f a b)) (sn : n ≤ most) (sm : m ≤ most) (sk : k ≤ most) where
    one : (x y : ℤ) → Within n x → Within m y → SFits w (f (to_z w (of_z w x)) (to_z w (of_z w y))) × (to_z w (of_z w (f (to_z w (of_z w x)) (to_z w (of_z w y)))) ≡ f x y)
    one x y hx hy =
        let lx : Within most x = (omega (arith, ints, hx), omega (arith, ints, hx)) in
        let ly : Within most y = (omega (arith, ints, hy), omega (arith, ints, hy)) in
        let hk = bound x y hx hy in
        let l : Within most (f x y) = (omega (arith, ints, hk), omega (arith, ints, hk)) in
        rw (passed_in x lx, passed_in y ly) (holds (f x y) l, passed_in (f x y) l)

    pub both_asked : (xs ys : List ℤ) → All (Within n) xs → All (Within m) ys → Each2 (λ (a b : ℕ). SFits w (f (to_z w a) (to_z w b))) (map (of_z w) xs) (map (of_z w) ys)
    both_asked [] ys hx hy = tt
    both_asked (x ∷ xs) [] hx hy = tt
    both_asked (x ∷ xs) (y ∷ ys) hx hy =
        ((one x y (All-head (Within n) x xs hx) (All-head (Within m) y ys hy)).0, both_asked xs ys (All-tail (Within n) x xs hx) (All-tail (Within m) y ys hy))

    pub both_are : (xs ys : List ℤ) → All (Within n) xs → All (Within m) ys → map (to_z w) (zip2 (λ (a b : ℕ). of_z w (f (to_z w a) (to_z w b))) (map (of_z w) xs) (map (of_z w) ys)) ≡ zip2 f xs ys
    both_are [] ys hx hy = refl
    both_are (x ∷ xs) [] hx hy = refl
    both_are (x ∷ xs) (y ∷ ys) hx hy =
        λ i. (one x y (All-head (Within n) x xs hx) (All-head (Within m) y ys hy)).1 i ∷ both_are xs ys (All-tail (Within n) x xs hx) (All-tail (Within m) y ys hy) i

abbrev pub short_told : List ℤ → List ℤ
short_told = told w16 32767 fits_short

abbrev pub word_told : List ℤ → List ℤ
word_told = told w32 2147483647 fits_word

-- 16 bits made 32
pub widened : (xs : List ℤ) → All (Within 32767) xs → map (act1 (cast signed signed w32) (s_int w16) (s_int w32)) (map (of_z w16) xs) ≡ map (of_z w32) xs
widened [] h = refl
widened (x ∷ xs) h =
    let hx = All-head (Within 32767) x xs h in
    let first : act1 (cast signed signed w32) (s_int w16) (s_int w32) (of_z w16 x) ≡ of_z w32 x = ap (of_z w32) (to_z-of_z w16 x (fits_short x hx)) in
    λ i. first i ∷ widened xs (All-tail (Within 32767) x xs h) i

-- and 32 made 16
pub narrows : (xs : List ℤ) → All (Within 32767) xs → Each1 (Asks1 (cast signed signed w16) (s_int w32)) (map (of_z w32) xs)
narrows [] h = tt
narrows (x ∷ xs) h =
    let hx = All-head (Within 32767) x xs h in
    let lx : Within 2147483647 x = (omega (arith, ints, hx), omega (arith, ints, hx)) in
    (rw (to_z-of_z w32 x (fits_word x lx)) (fits_short x hx), narrows xs (All-tail (Within 32767) x xs h))

pub narrowed : (xs : List ℤ) → All (Within 32767) xs → map (act1 (cast signed signed w16) (s_int w32) (s_int w16)) (map (of_z w32) xs) ≡ map (of_z w16) xs
narrowed [] h = refl
narrowed (x ∷ xs) h =
    let hx = All-head (Within 32767) x xs h in
    let lx : Within 2147483647 x = (omega (arith, ints, hx), omega (arith, ints, hx)) in
    let first : act1 (cast signed signed w16) (s_int w32) (s_int w16) (of_z w32 x) ≡ of_z w16 x = ap (of_z w16) (to_z-of_z w32 x (fits_word x lx)) in
    λ i. first i ∷ narrowed xs (All-tail (Within 32767) x xs h) i

-- two neighbours and their sum
abbrev pub lane : List ℤ → ℕ → ℤ
lane p k = to_z w32 (get_or (map (of_z w32) p ++ map (of_z w32) p) k 0)

module _ (p : List ℤ) (long : length p ≡ 16) (small : All (Within 134217728) p) (k : ℕ) (lt : 2 * k + 1 < 16) where
  two_lanes : (lane p (2 * k) ≡ get_or p (2 * k) (pos 0)) × (lane p (2 * k + 1) ≡ get_or p (2 * k + 1) (pos 0)) × Within 268435456 (get_or p (2 * k) (pos 0) +ℤ get_or p (2 * k + 1) (pos 0))
  two_lanes =
      let h = wider 134217728 2147483647 (omega arith) p small in
      let a = small (2 * k) (pos 0) (omega (arith, long, lt)) in
      let b = small (2 * k + 1) (pos 0) (omega (arith, long, lt)) in (
        left_lane w32 2147483647 fits_word p p (2 * k) (omega (arith, long, lt)) h,
        left_lane w32 2147483647 fits_word p p (2 * k + 1) (omega (arith, long, lt)) h,
        (omega (arith, ints, a, b), omega (arith, ints, a, b)),
      )

  pub neighbours_fit : SFits w32 (lane p (2 * k) +ℤ lane p (2 * k + 1))
  neighbours_fit = rw (two_lanes.0, two_lanes.1) (fits 268435456 _ (omega arith) two_lanes.2)

  pub neighbours_are : to_z w32 (of_z w32 (lane p (2 * k) +ℤ lane p (2 * k + 1))) ≡ get_or p (2 * k) (pos 0) +ℤ get_or p (2 * k + 1) (pos 0)
  neighbours_are = rw (two_lanes.0, two_lanes.1) (passed 268435456 _ (omega arith) two_lanes.2)

-- eight numbers within bounds
pub all_eight : (n : ℕ) (g : ℕ → ℤ) → ((k : ℕ) → k < 8 → Within n (g k)) → All (Within n) (eight g)
all_eight n g h = all_listed (Within n) g (eight g) refl h

abbrev eight_of : (ℕ → ℕ) → List ℕ
eight_of f = f 0 ∷ f 1 ∷ f 2 ∷ f 3 ∷ f 4 ∷ f 5 ∷ f 6 ∷ f 7 ∷ []

-- lanes shifted by a number of bits
less : (s : ℕ) (a : ℤ) → Within 2147483647 a → Within 2147483647 (int_shr a s)
less s (pos a) h = let e = mag_shr (pos a) (2 ^ s) in (omega (arith, ints, h, e), omega (arith, ints, h, e))
less s (negsuc a) h = let e = mag_shr (negsuc a) (2 ^ s) in (omega (arith, ints, h, e), omega (arith, ints, h, e))

module _ (s : ℕ) (lane_is : (a : ℤ) → act2 (shr signed) (s_int w32) (s_int w32) (s_int w32) (of_z w32 a) s ≡ of_z w32 (int_shr (to_z w32 (of_z w32 a)) s)) where
  pub shifted_by : (n : ℕ) (xs : List ℤ) → length xs ≡ n → All (Within 2147483647) xs
      → map (to_z w32) (zip2 (act2 (shr signed) (s_int w32) (s_int w32) (s_int w32)) (map (of_z w32) xs) (replicate n s)) ≡ map (λ a. int_shr a s) xs
  shifted_by n [] e h = refl
  shifted_by zero (x ∷ xs) e h = absurd (omega arith)
  shifted_by (suc n) (x ∷ xs) e h =
      let hx = All-head (Within 2147483647) x xs h in
      let first : to_z w32 (act2 (shr signed) (s_int w32) (s_int w32) (s_int w32) (of_z w32 x) s) ≡ int_shr x s =
      ap (to_z w32) (lane_is x) ∙ rw (passed 2147483647 x (omega arith) hx) (passed 2147483647 (int_shr x s) (omega arith) (less s x hx)) in
      λ i. first i ∷ shifted_by n xs (suc_inj e) (All-tail (Within 2147483647) x xs h) i

-- a number eight times
pub all_same : (n : ℕ) (z : ℤ) → Within n z → All (Within n) (replicate 8 z)
all_same n z h = All-replicate (Within n) 8 z h

-- a vector of eight and itself turned
module _ (x : List ℤ) (long : length x ≡ 8) (small : All (Within 256) x) where
  wide : All (Within 2147483647) x
  wide = wider 256 2147483647 (omega arith) x small

  pub turned : (k : ℕ) → k < 8 → get_or (map (of_z w32) x ++ map (of_z w32) x) (7 - k) 0 ≡ of_z w32 (get_or x (7 - k) (pos 0))
  turned k lt =
      get_or_append_left (map (of_z w32) x) (map (of_z w32) x) 0 (7 - k) (rw length-map (omega (arith, long))) ∙ get_or-map (of_z w32) x (7 - k) (pos 0) 0 (omega (arith, long))

  abbrev mirror : List ℕ
  mirror = eight_of (λ k. get_or (map (of_z w32) x ++ map (of_z w32) x) (7 - k) 0)

  pub mirror_is : mirror ≡ map (of_z w32) (eight (λ k. get_or x (7 - k) (pos 0)))
  mirror_is =
      let e0 = turned 0 (omega arith) in let e1 = turned 1 (omega arith) in let e2 = turned 2 (omega arith) in let e3 = turned 3 (omega arith) in
      let e4 = turned 4 (omega arith) in let e5 = turned 5 (omega arith) in let e6 = turned 6 (omega arith) in let e7 = turned 7 (omega arith) in
      (λ i. e0 i ∷ e1 i ∷ e2 i ∷ e3 i ∷ e4 i ∷ e5 i ∷ e6 i ∷ e7 i ∷ [])

  pub mirror_small : All (Within 256) (eight (λ k. get_or x (7 - k) (pos 0)))
  mirror_small = all_eight 256 (λ k. get_or x (7 - k) (pos 0)) (λ k lt. small (7 - k) (pos 0) (omega (arith, long)))

pub all_neighbours : (p : List ℤ) → length p ≡ 16 → All (Within 134217728) p → All (Within 268435456) (neighbours p)
all_neighbours p long small = all_eight 268435456 _ (λ k lt. (two_lanes p long small k (omega arith)).2)

-- a lane of the two vectors that is narrowed
narrow_lane : (z y : ℤ) → y ≡ z → Within 512 z → SFits w16 y × (to_z w16 (of_z w16 y) ≡ z)
narrow_lane z y e h =
    let s : Within 32767 z = (omega (arith, ints, h), omega (arith, ints, h)) in
    rw e (fits_short z s, to_z-of_z w16 z (fits_short z s))

module _ (x y : List ℤ) (lx : length x ≡ 8) (ly : length y ≡ 8) (hx : All (Within 512) x) (hy : All (Within 512) y) (k : ℕ) (lt : k < 4) where
  abbrev two : ℕ → ℤ
  two i = to_z w32 (get_or (map (of_z w32) x ++ map (of_z w32) y) i 0)

  pub of_left : SFits w16 (two k) × (to_z w16 (of_z w16 (two k)) ≡ get_or x k (pos 0))
  of_left = narrow_lane (get_or x k (pos 0)) (two k) (left_lane w32 2147483647 fits_word x y k (omega (arith, lx)) (wider 512 2147483647 (omega arith) x hx)) (hx k (pos 0) (omega (arith, lx)))

  pub of_right : SFits w16 (two (8 + k)) × (to_z w16 (of_z w16 (two (8 + k))) ≡ get_or y k (pos 0))
  of_right = narrow_lane (get_or y k (pos 0)) (two (8 + k)) (right_lane w32 2147483647 fits_word 8 x y (8 + k) lx (omega arith) (omega (arith, ly)) (wider 512 2147483647 (omega arith) y hy) ∙ ap (λ i. get_or y i (pos 0)) (omega arith)) (hy k (pos 0) (omega (arith, ly)))

-- eight numbers by their places
pub eight_places : {A : Type 0} (d : A) (xs : List A) → length xs ≡ 8
    → xs ≡ get_or xs 0 d ∷ get_or xs 1 d ∷ get_or xs 2 d ∷ get_or xs 3 d ∷ get_or xs 4 d ∷ get_or xs 5 d ∷ get_or xs 6 d ∷ get_or xs 7 d ∷ []
eight_places d xs e = ext_get_or d xs _ e (λ k l. eight_at d (λ i. get_or xs i d) k (omega (arith, e)))
