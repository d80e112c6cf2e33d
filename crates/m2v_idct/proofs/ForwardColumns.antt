-- Columns by lanes: what the even and the odd parts of a part's lines are, and that they give the sums.
use Rattle.std.proofs.Common.{◌≡◌, ℕ, ◌<◌, ◌≤◌, ◌+◌, ◌*◌, ◌∙◌, List, [], All, length, get_or, arith, refl, ap, ℤ, pos, neg_ℤ, ◌+ℤ◌, ◌-ℤ◌, ◌*ℤ◌}
use Rattle.std.proofs.lemmas.Int.{ints}
use Rattle.std.proofs.lemmas.List.Elements.{All-from_recursion}
use lib.Lanes.{zip2}
use mir.Syntax.{w16, w32}
use Rattle.m2v_idct.specs.Block.{at, nth}
use Rattle.m2v_idct.specs.Forward.{cosine, projection, rounded}
use Rattle.m2v_idct.specs.ForwardLanes.{all_rounded, eight, evens_of, inner_of, odds_of, outer_of, weighed, woven}
use Rattle.m2v_idct.specs.Ranges.{Within}
use Rattle.m2v_idct.specs.Sums.{sum_below}
use Rattle.m2v_idct.proofs.AllLanes.{all_eight, fits_short, fits_word, short_told, word_told, told_as, told_as_within, told_is, wider}
use Rattle.m2v_idct.proofs.Projections.{eight_cases}
use Rattle.m2v_idct.proofs.FourLanes.{difference_bound, sum_bound, zipped_within}

-- the lines of a part
module _ (part : List ℤ) (long : length part ≡ 64) (small : All (Within 8191) part) where
  pub at_small : (y : ℕ) → y < 8 → (k : ℕ) → k < 8 → Within 8191 (at part y k)
  at_small y ly k lk = small (8 * y + k) (pos 0) (omega (arith, long, ly, lk))

  pub line_small : (y : ℕ) → y < 8 → All (Within 8191) (eight (at part y))
  line_small y ly = all_eight 8191 (at part y) (at_small y ly)

  pub woven_small : (y z : ℕ) → y < 8 → z < 8 → All (Within 8191) (woven (at part y) (at part z))
  woven_small y z ly lz =
      let f = λ (k : ℕ) (lk : k < 8). at_small y ly k lk in
      let g = λ (k : ℕ) (lk : k < 8). at_small z lz k lk in
      All-from_recursion (Within 8191) (woven (at part y) (at part z)) (
        f 0 (omega arith),
        (
          g 0 (omega arith),
          (
            f 1 (omega arith),
            (
              g 1 (omega arith),
              (
                f 2 (omega arith),
                (
                  g 2 (omega arith),
                  (
                    f 3 (omega arith),
                    (
                      g 3 (omega arith),
                      (f 4 (omega arith), (g 4 (omega arith), (f 5 (omega arith), (g 5 (omega arith), (f 6 (omega arith), (g 6 (omega arith), (f 7 (omega arith), (g 7 (omega arith), tt)))))))),
                    ),
                  ),
                ),
              ),
            ),
          ),
        ),
      )

  -- two of them woven
  module _ (y z : ℕ) (ly : y < 8) (lz : z < 8) (a b r : List ℤ) (ea : a ≡ eight (at part y)) (eb : b ≡ eight (at part z)) where
    a_is : short_told a ≡ eight (at part y)
    a_is = told_as w16 32767 fits_short 8191 a (eight (at part y)) (omega arith) ea (line_small y ly)

    b_is : short_told b ≡ eight (at part z)
    b_is = told_as w16 32767 fits_short 8191 b (eight (at part z)) (omega arith) eb (line_small z lz)

    two_are : r ≡ woven (nth (short_told a)) (nth (short_told b)) → r ≡ woven (at part y) (at part z)
    two_are er = er ∙ (λ i. woven (nth (a_is i)) (nth (b_is i)))

    pub lines_woven : r ≡ woven (nth (short_told a)) (nth (short_told b)) → short_told r ≡ woven (at part y) (at part z)
    lines_woven er = told_as w16 32767 fits_short 8191 r (woven (at part y) (at part z)) (omega arith) (two_are er) (woven_small y z ly lz)

    pub lines_woven_within : r ≡ woven (nth (short_told a)) (nth (short_told b)) → All (Within 8191) (short_told r)
    lines_woven_within er = told_as_within w16 32767 fits_short 8191 r (woven (at part y) (at part z)) (omega arith) (two_are er) (woven_small y z ly lz)

-- a sum and a difference of lanes of 16 bits
abbrev plus : List ℤ → List ℤ → List ℤ
plus = zip2 (λ (a b : ℤ). a +ℤ b)

abbrev minus : List ℤ → List ℤ → List ℤ
minus = zip2 (λ (a b : ℤ). a -ℤ b)

module _ (n m : ℕ) (le : n + n ≤ m) (most : m ≤ 32767) (x y u v r : List ℤ) (ex : x ≡ u) (ey : y ≡ v) (hu : All (Within n) u) (hv : All (Within n) v) where
  x_is : short_told x ≡ u
  x_is = told_as w16 32767 fits_short n x u (omega (arith, le, most)) ex hu

  y_is : short_told y ≡ v
  y_is = told_as w16 32767 fits_short n y v (omega (arith, le, most)) ey hv

  pub sum_is : r ≡ plus (short_told x) (short_told y) → r ≡ plus u v
  sum_is e = e ∙ (λ i. plus (x_is i) (y_is i))

  pub sum_small : All (Within m) (plus u v)
  sum_small = zipped_within n n m (λ (a b : ℤ). a +ℤ b) (sum_bound n n m le) (omega (arith, le, most)) (omega (arith, le, most)) (omega (arith, le, most)) u v hu hv

  pub difference_is : r ≡ minus (short_told x) (short_told y) → r ≡ minus u v
  difference_is e = e ∙ (λ i. minus (x_is i) (y_is i))

  pub difference_small : All (Within m) (minus u v)
  difference_small = zipped_within n n m (λ (a b : ℤ). a -ℤ b) (difference_bound n n m le) (omega (arith, le, most)) (omega (arith, le, most)) (omega (arith, le, most)) u v hu hv

-- the parts of all columns
module _ (part : List ℤ) (long : length part ≡ 64) (small : All (Within 8191) part) where
  abbrev two : ℕ → ℕ → List ℤ
  two y z = woven (at part y) (at part z)

  -- of four vectors that are woven of its lines
  module _ (a b c d : List ℤ) (ea : a ≡ woven (at part 0) (at part 1)) (eb : b ≡ woven (at part 7) (at part 6)) (ec : c ≡ woven (at part 3) (at part 2)) (ed : d ≡ woven (at part 4) (at part 5)) where
    ha : All (Within 8191) (woven (at part 0) (at part 1))
    ha = woven_small part long small 0 1 (omega arith) (omega arith)

    hb : All (Within 8191) (woven (at part 7) (at part 6))
    hb = woven_small part long small 7 6 (omega arith) (omega arith)

    hc : All (Within 8191) (woven (at part 3) (at part 2))
    hc = woven_small part long small 3 2 (omega arith) (omega arith)

    hd : All (Within 8191) (woven (at part 4) (at part 5))
    hd = woven_small part long small 4 5 (omega arith) (omega arith)

    outer_small : All (Within 16382) (outer_of (at part))
    outer_small = difference_small 8191 16382 (omega arith) (omega arith) a b (woven (at part 0) (at part 1)) (woven (at part 7) (at part 6)) [] ea eb ha hb

    inner_small : All (Within 16382) (inner_of (at part))
    inner_small = difference_small 8191 16382 (omega arith) (omega arith) c d (woven (at part 3) (at part 2)) (woven (at part 4) (at part 5)) [] ec ed hc hd

    pub outer_told : (r : List ℤ) → r ≡ minus (short_told a) (short_told b) → short_told r ≡ outer_of (at part)
    outer_told r e =
        told_as w16 32767 fits_short 16382 r (outer_of (at part)) (omega arith)
        (difference_is 8191 16382 (omega arith) (omega arith) a b (woven (at part 0) (at part 1)) (woven (at part 7) (at part 6)) r ea eb ha hb e) outer_small

    pub inner_told : (r : List ℤ) → r ≡ minus (short_told c) (short_told d) → short_told r ≡ inner_of (at part)
    inner_told r e =
        told_as w16 32767 fits_short 16382 r (inner_of (at part)) (omega arith)
        (difference_is 8191 16382 (omega arith) (omega arith) c d (woven (at part 3) (at part 2)) (woven (at part 4) (at part 5)) r ec ed hc hd e) inner_small

    sum_ab : All (Within 16382) (plus (woven (at part 0) (at part 1)) (woven (at part 7) (at part 6)))
    sum_ab = sum_small 8191 16382 (omega arith) (omega arith) a b (woven (at part 0) (at part 1)) (woven (at part 7) (at part 6)) [] ea eb ha hb

    sum_cd : All (Within 16382) (plus (woven (at part 3) (at part 2)) (woven (at part 4) (at part 5)))
    sum_cd = sum_small 8191 16382 (omega arith) (omega arith) c d (woven (at part 3) (at part 2)) (woven (at part 4) (at part 5)) [] ec ed hc hd

    module _ (s t : List ℤ) (es : s ≡ plus (short_told a) (short_told b)) (et : t ≡ plus (short_told c) (short_told d)) where
      s_is : s ≡ plus (woven (at part 0) (at part 1)) (woven (at part 7) (at part 6))
      s_is = sum_is 8191 16382 (omega arith) (omega arith) a b (woven (at part 0) (at part 1)) (woven (at part 7) (at part 6)) s ea eb ha hb es

      t_is : t ≡ plus (woven (at part 3) (at part 2)) (woven (at part 4) (at part 5))
      t_is = sum_is 8191 16382 (omega arith) (omega arith) c d (woven (at part 3) (at part 2)) (woven (at part 4) (at part 5)) t ec ed hc hd et

      pub s_within : All (Within 16383) (short_told s)
      s_within = wider 16382 16383 (omega arith) _ (told_as_within w16 32767 fits_short 16382 s _ (omega arith) s_is sum_ab)

      pub t_within : All (Within 16383) (short_told t)
      t_within = wider 16382 16383 (omega arith) _ (told_as_within w16 32767 fits_short 16382 t _ (omega arith) t_is sum_cd)

      pub even_told : (r : List ℤ) → r ≡ plus (short_told s) (short_told t) → short_told r ≡ evens_of (at part)
      even_told r e =
          told_as w16 32767 fits_short 32764 r (evens_of (at part)) (omega arith)
          (sum_is 16382 32764 (omega arith) (omega arith) s t _ _ r s_is t_is sum_ab sum_cd e)
          (sum_small 16382 32764 (omega arith) (omega arith) s t _ _ r s_is t_is sum_ab sum_cd)

      pub odd_told : (r : List ℤ) → r ≡ minus (short_told s) (short_told t) → short_told r ≡ odds_of (at part)
      odd_told r e =
          told_as w16 32767 fits_short 32764 r (odds_of (at part)) (omega arith)
          (difference_is 16382 32764 (omega arith) (omega arith) s t _ _ r s_is t_is sum_ab sum_cd e)
          (difference_small 16382 32764 (omega arith) (omega arith) s t _ _ r s_is t_is sum_ab sum_cd)

  -- and their bounds, whatever vectors hold them
  pub evens_small : All (Within 32767) (evens_of (at part))
  evens_small =
      let ab = sum_ab (two 0 1) (two 7 6) (two 3 2) (two 4 5) refl refl refl refl in
      let cd = sum_cd (two 0 1) (two 7 6) (two 3 2) (two 4 5) refl refl refl refl in
      wider 32764 32767 (omega arith) (evens_of (at part)) (sum_small 16382 32764 (omega arith) (omega arith) (plus (two 0 1) (two 7 6)) (plus (two 3 2) (two 4 5)) (plus (two 0 1) (two 7 6)) (plus (two 3 2) (two 4 5)) [] refl refl ab cd)

  pub odds_small : All (Within 32767) (odds_of (at part))
  odds_small =
      let ab = sum_ab (two 0 1) (two 7 6) (two 3 2) (two 4 5) refl refl refl refl in
      let cd = sum_cd (two 0 1) (two 7 6) (two 3 2) (two 4 5) refl refl refl refl in
      wider 32764 32767 (omega arith) (odds_of (at part)) (difference_small 16382 32764 (omega arith) (omega arith) (plus (two 0 1) (two 7 6)) (plus (two 3 2) (two 4 5)) (plus (two 0 1) (two 7 6)) (plus (two 3 2) (two 4 5)) [] refl refl ab cd)

  pub outers_small : All (Within 32767) (outer_of (at part))
  outers_small = wider 16382 32767 (omega arith) (outer_of (at part)) (outer_small (two 0 1) (two 7 6) (two 3 2) (two 4 5) refl refl refl refl)

  pub inners_small : All (Within 32767) (inner_of (at part))
  inners_small = wider 16382 32767 (omega arith) (inner_of (at part)) (inner_small (two 0 1) (two 7 6) (two 3 2) (two 4 5) refl refl refl refl)

-- a lane of a line of coefficients
pub even_lane : (f g u v : ℕ → ℤ) (a b : ℤ) (k : ℕ) → k < 8
    → get_or (all_rounded (weighed (woven f g) a b) (weighed (woven u v) a b)) k (pos 0) ≡ rounded (pos 8192 *ℤ (f k *ℤ a +ℤ g k *ℤ b) +ℤ (u k *ℤ a +ℤ v k *ℤ b))
even_lane f g u v a b =
    eight_cases (λ k. get_or (all_rounded (weighed (woven f g) a b) (weighed (woven u v) a b)) k (pos 0) ≡ rounded (pos 8192 *ℤ (f k *ℤ a +ℤ g k *ℤ b) +ℤ (u k *ℤ a +ℤ v k *ℤ b)))
    refl refl refl refl refl refl refl refl

abbrev pub two_weighed : List ℤ → List ℤ → ℤ → ℤ → ℤ → ℤ → List ℤ
two_weighed x y a b c d = plus (weighed x a b) (weighed y d c)

pub odd_lane : (f g f' g' u v u' v' : ℕ → ℤ) (a b c d : ℤ) (k : ℕ) → k < 8
    → get_or (all_rounded (two_weighed (woven f g) (woven f' g') a b c d) (two_weighed (woven u v) (woven u' v') a b c d)) k (pos 0)
    ≡ rounded (pos 8192 *ℤ (f k *ℤ a +ℤ g k *ℤ b +ℤ (f' k *ℤ d +ℤ g' k *ℤ c)) +ℤ (u k *ℤ a +ℤ v k *ℤ b +ℤ (u' k *ℤ d +ℤ v' k *ℤ c)))
odd_lane f g f' g' u v u' v' a b c d =
    eight_cases (λ k. get_or (all_rounded (two_weighed (woven f g) (woven f' g') a b c d) (two_weighed (woven u v) (woven u' v') a b c d)) k (pos 0)
    ≡ rounded (pos 8192 *ℤ (f k *ℤ a +ℤ g k *ℤ b +ℤ (f' k *ℤ d +ℤ g' k *ℤ c)) +ℤ (u k *ℤ a +ℤ v k *ℤ b +ℤ (u' k *ℤ d +ℤ v' k *ℤ c))))
    refl refl refl refl refl refl refl refl

-- the sums of a column, by its even and odd parts
module _ (p q : ℕ → ℕ → ℤ) (k : ℕ) where
  abbrev pub both : ℕ → ℤ
  both y = pos 8192 *ℤ p y k +ℤ q y k

  abbrev evens : (ℕ → ℕ → ℤ) → ℤ → ℤ → ℤ
  evens r a b = (r 0 k +ℤ r 7 k +ℤ (r 3 k +ℤ r 4 k)) *ℤ a +ℤ (r 1 k +ℤ r 6 k +ℤ (r 2 k +ℤ r 5 k)) *ℤ b

  abbrev odds : (ℕ → ℕ → ℤ) → ℤ → ℤ → ℤ
  odds r a b = (r 0 k +ℤ r 7 k -ℤ (r 3 k +ℤ r 4 k)) *ℤ a +ℤ (r 1 k +ℤ r 6 k -ℤ (r 2 k +ℤ r 5 k)) *ℤ b

  abbrev all_odds : (ℕ → ℕ → ℤ) → ℤ → ℤ → ℤ → ℤ → ℤ
  all_odds r a b c d = (r 0 k -ℤ r 7 k) *ℤ a +ℤ (r 1 k -ℤ r 6 k) *ℤ b +ℤ ((r 3 k -ℤ r 4 k) *ℤ d +ℤ (r 2 k -ℤ r 5 k) *ℤ c)

  pub sum_0 : pos 8192 *ℤ evens p (pos 2896) (pos 2896) +ℤ evens q (pos 2896) (pos 2896) ≡ projection 0 both
  unfolding projection sum_below cosine
  sum_0 = omega (arith, ints)

  pub sum_2 : pos 8192 *ℤ odds p (pos 3784) (pos 1567) +ℤ odds q (pos 3784) (pos 1567) ≡ projection 2 both
  unfolding projection sum_below cosine
  sum_2 = omega (arith, ints)

  pub sum_4 : pos 8192 *ℤ evens p (pos 2896) (neg_ℤ (pos 2896)) +ℤ evens q (pos 2896) (neg_ℤ (pos 2896)) ≡ projection 4 both
  unfolding projection sum_below cosine
  sum_4 = omega (arith, ints)

  pub sum_6 : pos 8192 *ℤ odds p (pos 1567) (neg_ℤ (pos 3784)) +ℤ odds q (pos 1567) (neg_ℤ (pos 3784)) ≡ projection 6 both
  unfolding projection sum_below cosine
  sum_6 = omega (arith, ints)

  pub sum_1 : pos 8192 *ℤ all_odds p (pos 4017) (pos 3406) (pos 2276) (pos 799) +ℤ all_odds q (pos 4017) (pos 3406) (pos 2276) (pos 799) ≡ projection 1 both
  unfolding projection sum_below cosine
  sum_1 = omega (arith, ints)

  pub sum_3 : pos 8192 *ℤ all_odds p (pos 3406) (neg_ℤ (pos 799)) (neg_ℤ (pos 4017)) (neg_ℤ (pos 2276)) +ℤ all_odds q (pos 3406) (neg_ℤ (pos 799)) (neg_ℤ (pos 4017)) (neg_ℤ (pos 2276)) ≡ projection 3 both
  unfolding projection sum_below cosine
  sum_3 = omega (arith, ints)

  pub sum_5 : pos 8192 *ℤ all_odds p (pos 2276) (neg_ℤ (pos 4017)) (pos 799) (pos 3406) +ℤ all_odds q (pos 2276) (neg_ℤ (pos 4017)) (pos 799) (pos 3406) ≡ projection 5 both
  unfolding projection sum_below cosine
  sum_5 = omega (arith, ints)

  pub sum_7 : pos 8192 *ℤ all_odds p (pos 799) (neg_ℤ (pos 2276)) (pos 3406) (neg_ℤ (pos 4017)) +ℤ all_odds q (pos 799) (neg_ℤ (pos 2276)) (pos 3406) (neg_ℤ (pos 4017)) ≡ projection 7 both
  unfolding projection sum_below cosine
  sum_7 = omega (arith, ints)

-- sums with the weights that are passed on
pub weights_told : (x r : List ℤ) (a b a' b' : ℤ) → All (Within 32767) x → a' ≡ a → b' ≡ b → r ≡ weighed (short_told x) a' b' → All (Within 268435456) r
    → word_told r ≡ weighed x a b
weights_told x r a b a' b' hx ea eb er hr =
    let x_is = told_is w16 32767 fits_short x hx in
    told_is w32 2147483647 fits_word r (wider 268435456 2147483647 (omega arith) r hr) ∙ er ∙ (λ i. weighed (x_is i) (ea i) (eb i))

-- a lane of a line that is passed on
pub even_told_at : (x y r : List ℤ) (f g u v : ℕ → ℤ) (a b : ℤ) → x ≡ woven f g → All (Within 32767) (woven f g) → y ≡ woven u v → All (Within 32767) (woven u v)
    → r ≡ all_rounded (weighed (short_told x) a b) (weighed (short_told y) a b) → All (Within 600000000) r
    → (k : ℕ) → k < 8 → get_or (word_told r) k (pos 0) ≡ rounded (pos 8192 *ℤ (f k *ℤ a +ℤ g k *ℤ b) +ℤ (u k *ℤ a +ℤ v k *ℤ b))
even_told_at x y r f g u v a b ex hx ey hy er hr k lk =
    let x_is = told_as w16 32767 fits_short 32767 x (woven f g) (omega arith) ex hx in
    let y_is = told_as w16 32767 fits_short 32767 y (woven u v) (omega arith) ey hy in
    let r_is = told_is w32 2147483647 fits_word r (wider 600000000 2147483647 (omega arith) r hr) ∙ er ∙ (λ i. all_rounded (weighed (x_is i) a b) (weighed (y_is i) a b)) in
    ap (λ (t : List ℤ). get_or t k (pos 0)) r_is ∙ even_lane f g u v a b k lk

pub odd_told_at : (x x' y y' r : List ℤ) (f g f' g' u v u' v' : ℕ → ℤ) (a b c d : ℤ) → x ≡ woven f g → x' ≡ woven f' g' → y ≡ woven u v → y' ≡ woven u' v'
    → r ≡ all_rounded (two_weighed x x' a b c d) (two_weighed y y' a b c d) → All (Within 600000000) r
    → (k : ℕ) → k < 8 → get_or (word_told r) k (pos 0)
    ≡ rounded (pos 8192 *ℤ (f k *ℤ a +ℤ g k *ℤ b +ℤ (f' k *ℤ d +ℤ g' k *ℤ c)) +ℤ (u k *ℤ a +ℤ v k *ℤ b +ℤ (u' k *ℤ d +ℤ v' k *ℤ c)))
odd_told_at x x' y y' r f g f' g' u v u' v' a b c d ex ex' ey ey' er hr k lk =
    let r_is = told_is w32 2147483647 fits_word r (wider 600000000 2147483647 (omega arith) r hr) ∙ er ∙ (λ i. all_rounded (two_weighed (ex i) (ex' i) a b c d) (two_weighed (ey i) (ey' i) a b c d)) in
    ap (λ (t : List ℤ). get_or t k (pos 0)) r_is ∙ odd_lane f g f' g' u v u' v' a b c d k lk
