-- What the steps of the forward transform by lanes leave.
use Rattle.std.proofs.Common.{◌≡◌, ℕ, ◌<◌, ◌≤◌, ◌-◌, ◌∙◌, List, [], ◌∷◌, All, length, map, get_or, arith, refl, ap, ℤ, pos, ◌+ℤ◌, ◌-ℤ◌, ◌*ℤ◌, ◌≤ℤ◌}
use Rattle.std.specs.Int.{int_shr}
use Rattle.std.proofs.lemmas.Int.{ints}
use Rattle.std.proofs.lemmas.List.Elements.{All-cons, All-from_recursion, All-head, All-nil, All-tail}
use lib.Lanes.{zip2}
use mir.Syntax.{w16, w32}
use Rattle.m2v_idct.specs.Forward.{rounded}
use Rattle.m2v_idct.specs.ForwardLanes.{all_rounded, eight, folded, high_of, low_of, neighbours, weighed, woven}
use Rattle.m2v_idct.specs.Ranges.{Within}
use Rattle.m2v_idct.proofs.AllLanes.{all_eight, fits_short, fits_word, short_told, word_told, told_as, told_as_within, told_is, wider}
use Rattle.m2v_idct.proofs.FourLanes.{difference_bound, sum_bound, zipped_within}
use Rattle.m2v_idct.proofs.Shifts.{shr3, shr13, shr16, shr26_low, shr26_high}

-- the even and the odd part of a line
module _ (x : List ℤ) (long : length x ≡ 8) (small : All (Within 256) x) where
  at_place : (k : ℕ) → k < 8 → Within 256 (get_or x k (pos 0))
  at_place k lt = small k (pos 0) (omega (arith, long))

  abbrev pub evens : List ℤ
  evens = eight (λ k. get_or x k (pos 0) +ℤ get_or x (7 - k) (pos 0))

  abbrev pub odds : List ℤ
  odds = eight (λ k. get_or x k (pos 0) -ℤ get_or x (7 - k) (pos 0))

  pub evens_small : All (Within 512) evens
  evens_small = all_eight 512 (λ k. get_or x k (pos 0) +ℤ get_or x (7 - k) (pos 0)) (λ k lt. sum_bound 256 256 512 (omega arith) _ _ (at_place k lt) (at_place (7 - k) (omega arith)))

  pub odds_small : All (Within 512) odds
  odds_small = all_eight 512 (λ k. get_or x k (pos 0) -ℤ get_or x (7 - k) (pos 0)) (λ k lt. difference_bound 256 256 512 (omega arith) _ _ (at_place k lt) (at_place (7 - k) (omega arith)))

  pub evens_are : (s : List ℤ) → s ≡ eight (λ k. get_or (word_told x) k (pos 0) +ℤ get_or (word_told x) (7 - k) (pos 0)) → s ≡ evens
  evens_are s e = e ∙ ap (λ (t : List ℤ). eight (λ k. get_or t k (pos 0) +ℤ get_or t (7 - k) (pos 0))) (told_is w32 2147483647 fits_word x (wider 256 2147483647 (omega arith) x small))

  pub odds_are : (s : List ℤ) → s ≡ eight (λ k. get_or (word_told x) k (pos 0) -ℤ get_or (word_told x) (7 - k) (pos 0)) → s ≡ odds
  odds_are s e = e ∙ ap (λ (t : List ℤ). eight (λ k. get_or t k (pos 0) -ℤ get_or t (7 - k) (pos 0))) (told_is w32 2147483647 fits_word x (wider 256 2147483647 (omega arith) x small))

  pub folded_small : All (Within 512) (folded (λ k. get_or x k (pos 0)))
  folded_small =
      All-from_recursion (Within 512) (folded (λ k. get_or x k (pos 0))) (
        evens_small 0 (pos 0) (omega arith),
        (
          evens_small 1 (pos 0) (omega arith),
          (
            evens_small 2 (pos 0) (omega arith),
            (
              evens_small 3 (pos 0) (omega arith),
              (odds_small 0 (pos 0) (omega arith), (odds_small 1 (pos 0) (omega arith), (odds_small 2 (pos 0) (omega arith), (odds_small 3 (pos 0) (omega arith), tt)))),
            ),
          ),
        ),
      )

abbrev fours : List ℤ → List ℤ → List ℤ
fours s d =
    get_or s 0 (pos 0) ∷ get_or s 1 (pos 0) ∷ get_or s 2 (pos 0) ∷ get_or s 3 (pos 0)
    ∷ get_or d 0 (pos 0) ∷ get_or d 1 (pos 0) ∷ get_or d 2 (pos 0) ∷ get_or d 3 (pos 0) ∷ []

pub line_folded : (x s d r : List ℤ) → length x ≡ 8 → All (Within 256) x
    → s ≡ eight (λ k. get_or (word_told x) k (pos 0) +ℤ get_or (word_told x) (7 - k) (pos 0))
    → d ≡ eight (λ k. get_or (word_told x) k (pos 0) -ℤ get_or (word_told x) (7 - k) (pos 0))
    → r ≡ fours (word_told s) (word_told d) → short_told r ≡ folded (λ k. get_or x k (pos 0))
line_folded x s d r long small es ed er =
    let s_is = told_as w32 2147483647 fits_word 512 s (evens x long small) (omega arith) (evens_are x long small s es) (evens_small x long small) in
    let d_is = told_as w32 2147483647 fits_word 512 d (odds x long small) (omega arith) (odds_are x long small d ed) (odds_small x long small) in
    told_as w16 32767 fits_short 512 r (folded (λ k. get_or x k (pos 0))) (omega arith) (er ∙ (λ i. fours (s_is i) (d_is i))) (folded_small x long small)

-- numbers that are changed one by one
pub all_mapped : (n m : ℕ) (g : ℤ → ℤ) → ((z : ℤ) → Within n z → Within m (g z)) → (xs : List ℤ) → All (Within n) xs → All (Within m) (map g xs)
all_mapped n m g bound [] h = All-nil (Within m)
all_mapped n m g bound (x ∷ xs) h = All-cons (Within m) (g x) (map g xs) (bound x (All-head (Within n) x xs h)) (all_mapped n m g bound xs (All-tail (Within n) x xs h))

-- the two parts of a number
pub high_small : (z : ℤ) → Within 67200000 z → Within 1100 (high_of z)
high_small z h = let b = shr16 z in (omega (arith, ints, h, b), omega (arith, ints, h, b))

abbrev rest : ℤ → ℤ
rest z = z -ℤ pos 65536 *ℤ high_of z

rest_between : (z : ℤ) → (pos 0 ≤ℤ rest z) × (rest z ≤ℤ pos 65535)
rest_between z = let b = shr16 z in (omega (arith, ints, b), omega (arith, ints, b))

rest_small : (z : ℤ) → Within 67200000 z → Within 65535 (rest z)
rest_small z h = let b = rest_between z in (omega (arith, ints, b), omega (arith, ints, b))

pub low_small : (z : ℤ) → Within 67200000 z → Within 8191 (low_of z)
low_small z h = let a = rest_between z in let b = shr3 (rest z) in (omega (arith, ints, a, b), omega (arith, ints, a, b))

rests_are : (xs : List ℤ) → zip2 (λ (a b : ℤ). a -ℤ b) xs (map (λ (a : ℤ). pos 65536 *ℤ a) (map high_of xs)) ≡ map rest xs
rests_are [] = refl
rests_are (x ∷ xs) = λ i. rest x ∷ rests_are xs i

lows_are : (xs : List ℤ) → map (λ (a : ℤ). int_shr a 3) (map rest xs) ≡ map low_of xs
lows_are [] = refl
lows_are (x ∷ xs) = λ i. low_of x ∷ lows_are xs i

module _ (x : List ℤ) (small : All (Within 67200000) x) where
  pub highs_small : All (Within 1100) (map high_of x)
  highs_small = all_mapped 67200000 1100 high_of high_small x small

  pub lows_small : All (Within 8191) (map low_of x)
  lows_small = all_mapped 67200000 8191 low_of low_small x small

  pub high_is : (h : List ℤ) → h ≡ map high_of (word_told x) → h ≡ map high_of x
  high_is h e = e ∙ ap (map high_of) (told_is w32 2147483647 fits_word x (wider 67200000 2147483647 (omega arith) x small))

  pub high_told : (h : List ℤ) → h ≡ map high_of (word_told x) → word_told h ≡ map high_of x
  high_told h e = told_as w32 2147483647 fits_word 1100 h (map high_of x) (omega arith) (high_is h e) highs_small

  raised_small : All (Within 72089600) (map (λ (a : ℤ). pos 65536 *ℤ a) (map high_of x))
  raised_small = all_mapped 1100 72089600 (λ (a : ℤ). pos 65536 *ℤ a) (λ z b. (omega (arith, ints, b), omega (arith, ints, b))) (map high_of x) highs_small

  -- of what is raised again, taken from the number, and divided
  module _ (h m r l : List ℤ) (eh : h ≡ map high_of (word_told x)) (em : m ≡ map (λ (a : ℤ). pos 65536 *ℤ a) (word_told h))
      (er : r ≡ zip2 (λ (a b : ℤ). a -ℤ b) (word_told x) (word_told m)) where
    m_is : m ≡ map (λ (a : ℤ). pos 65536 *ℤ a) (map high_of x)
    m_is = em ∙ ap (map (λ (a : ℤ). pos 65536 *ℤ a)) (high_told h eh)

    pub raised_within : All (Within 72089600) (word_told m)
    raised_within = told_as_within w32 2147483647 fits_word 72089600 m (map (λ (a : ℤ). pos 65536 *ℤ a) (map high_of x)) (omega arith) m_is raised_small

    r_is : r ≡ map rest x
    r_is =
        er
        ∙ (λ i. zip2 (λ (a b : ℤ). a -ℤ b) (told_is w32 2147483647 fits_word x (wider 67200000 2147483647 (omega arith) x small) i)
        (told_as w32 2147483647 fits_word 72089600 m (map (λ (a : ℤ). pos 65536 *ℤ a) (map high_of x)) (omega arith) m_is raised_small i))
        ∙ rests_are x

    rests_small : All (Within 65535) (map rest x)
    rests_small = all_mapped 67200000 65535 rest rest_small x small

    pub rest_within : All (Within 65535) (word_told r)
    rest_within = told_as_within w32 2147483647 fits_word 65535 r (map rest x) (omega arith) r_is rests_small

    pub low_is : l ≡ map (λ (a : ℤ). int_shr a 3) (word_told r) → l ≡ map low_of x
    low_is el = el ∙ ap (map (λ (a : ℤ). int_shr a 3)) (told_as w32 2147483647 fits_word 65535 r (map rest x) (omega arith) r_is rests_small) ∙ lows_are x

-- one part that is narrowed
pub part_told : (n : ℕ) (p q r : List ℤ) → n ≤ 8191 → p ≡ q → All (Within n) q → r ≡ word_told p → short_told r ≡ q
part_told n p q r le e h f =
    told_as w16 32767 fits_short n r q (omega (arith, le)) (f ∙ told_as w32 2147483647 fits_word n p q (omega (arith, le)) e h) h

pub part_within : (n : ℕ) (p q : List ℤ) → n ≤ 8191 → p ≡ q → All (Within n) q → All (Within 8191) (word_told p)
part_within n p q le e h = wider n 8191 le (word_told p) (told_as_within w32 2147483647 fits_word n p q (omega (arith, le)) e h)

-- a sum in two parts, to the nearest
rounded_is : (h l : ℤ) → int_shr (h +ℤ int_shr (l +ℤ pos 33554432) 13) 13 ≡ rounded (pos 8192 *ℤ h +ℤ l)
rounded_is h l =
    let m = int_shr (l +ℤ pos 33554432) 13 in
    let a = shr13 (l +ℤ pos 33554432) in let b = shr13 (h +ℤ m) in
    let z = pos 8192 *ℤ h +ℤ l +ℤ pos 33554432 in
    let e = shr26_low z in let f = shr26_high z in
    omega (arith, ints, a, b, e, f)

abbrev half : ℤ → ℤ
half a = a +ℤ pos 33554432

abbrev drop : ℤ → ℤ
drop a = int_shr a 13

all_dropped : (hs ls : List ℤ) → map drop (zip2 (λ (a b : ℤ). a +ℤ b) hs (map drop (map half ls))) ≡ all_rounded hs ls
all_dropped [] ls = refl
all_dropped (h ∷ hs) [] = refl
all_dropped (h ∷ hs) (l ∷ ls) = λ i. rounded_is h l i ∷ all_dropped hs ls i

drop_small : (z : ℤ) → Within 1200000000 z → Within 600000000 (drop z)
drop_small z h = let b = shr13 z in (omega (arith, ints, h, b), omega (arith, ints, h, b))

module _ (h l : List ℤ) (hh : All (Within 536870912) h) (hl : All (Within 536870912) l) where
  halves_small : All (Within 1200000000) (map half l)
  halves_small = all_mapped 536870912 1200000000 half (λ z b. (omega (arith, ints, b), omega (arith, ints, b))) l hl

  drops_small : All (Within 600000000) (map drop (map half l))
  drops_small = all_mapped 1200000000 600000000 drop drop_small (map half l) halves_small

  module _ (a b s : List ℤ) (ea : a ≡ map half (word_told l)) (eb : b ≡ map drop (word_told a)) (es : s ≡ zip2 (λ (x y : ℤ). x +ℤ y) (word_told h) (word_told b)) where
    a_is : a ≡ map half l
    a_is = ea ∙ ap (map half) (told_is w32 2147483647 fits_word l (wider 536870912 2147483647 (omega arith) l hl))

    pub half_within : All (Within 1200000000) (word_told a)
    half_within = told_as_within w32 2147483647 fits_word 1200000000 a (map half l) (omega arith) a_is halves_small

    b_is : b ≡ map drop (map half l)
    b_is = eb ∙ ap (map drop) (told_as w32 2147483647 fits_word 1200000000 a (map half l) (omega arith) a_is halves_small)

    pub carry_within : All (Within 600000000) (word_told b)
    carry_within = told_as_within w32 2147483647 fits_word 600000000 b (map drop (map half l)) (omega arith) b_is drops_small

    sums_small : All (Within 1200000000) (zip2 (λ (x y : ℤ). x +ℤ y) h (map drop (map half l)))
    sums_small = zipped_within 536870912 600000000 1200000000 (λ (x y : ℤ). x +ℤ y) (sum_bound 536870912 600000000 1200000000 (omega arith)) (omega arith) (omega arith) (omega arith) h (map drop (map half l)) hh drops_small

    s_is : s ≡ zip2 (λ (x y : ℤ). x +ℤ y) h (map drop (map half l))
    s_is =
        es
        ∙ (λ i. zip2 (λ (x y : ℤ). x +ℤ y) (told_is w32 2147483647 fits_word h (wider 536870912 2147483647 (omega arith) h hh) i)
        (told_as w32 2147483647 fits_word 600000000 b (map drop (map half l)) (omega arith) b_is drops_small i))

    pub sum_within : All (Within 1200000000) (word_told s)
    sum_within = told_as_within w32 2147483647 fits_word 1200000000 s _ (omega arith) s_is sums_small

    module _ (r : List ℤ) (er : r ≡ map drop (word_told s)) where
      end_is : r ≡ map drop (zip2 (λ (x y : ℤ). x +ℤ y) h (map drop (map half l)))
      end_is = er ∙ ap (map drop) (told_as w32 2147483647 fits_word 1200000000 s _ (omega arith) s_is sums_small)

      end_small : All (Within 600000000) (map drop (zip2 (λ (x y : ℤ). x +ℤ y) h (map drop (map half l))))
      end_small = all_mapped 1200000000 600000000 drop drop_small _ sums_small

      pub rounded_are : word_told r ≡ all_rounded h l
      rounded_are = told_as w32 2147483647 fits_word 600000000 r _ (omega arith) end_is end_small ∙ all_dropped h l

      pub rounded_within : All (Within 600000000) (word_told r)
      rounded_within = told_as_within w32 2147483647 fits_word 600000000 r _ (omega arith) end_is end_small

-- a line that is woven of two, with the weights that are passed on
pub weighed_told : (x m r : List ℤ) (a b a' b' : ℤ) → All (Within 32767) x → a' ≡ a → b' ≡ b → m ≡ woven (λ k. a') (λ k. b') → All (Within 4096) m
    → r ≡ neighbours (zip2 (λ (y z : ℤ). y *ℤ z) (short_told x) (short_told m)) → All (Within 268435456) r → word_told r ≡ weighed x a b
weighed_told x m r a b a' b' hx ea eb em hm er hr =
    let x_is = told_is w16 32767 fits_short x hx in
    let m_is : short_told m ≡ woven (λ k. a) (λ k. b) = told_is w16 32767 fits_short m (wider 4096 32767 (omega arith) m hm) ∙ em ∙ (λ i. woven (λ k. ea i) (λ k. eb i)) in
    told_is w32 2147483647 fits_word r (wider 268435456 2147483647 (omega arith) r hr) ∙ er ∙ (λ i. neighbours (zip2 (λ (y z : ℤ). y *ℤ z) (x_is i) (m_is i)))

-- the two parts of a sum are the sum
pub parts_join : (z : ℤ) → pos 8192 *ℤ high_of (pos 8 *ℤ z) +ℤ low_of (pos 8 *ℤ z) ≡ z
parts_join z =
    let y = pos 8 *ℤ z in
    let a = rest_between y in let b = shr3 (rest y) in
    omega (arith, ints, a, b)
