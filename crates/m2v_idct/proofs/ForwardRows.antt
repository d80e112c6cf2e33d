-- A line by lanes has eight times the sums of its samples, each times a cosine.
use Rattle.std.proofs.Common.{◌≡◌, ℕ, ◌<◌, ◌≤◌, ◌∙◌, List, [], ◌∷◌, All, length, map, get_or, arith, ap, sym, ℤ, pos, neg_ℤ, ◌+ℤ◌, ◌*ℤ◌, ◌≤ℤ◌}
use Rattle.std.proofs.lemmas.Int.{ints}
use Rattle.std.proofs.lemmas.List.Elements.{All-from_recursion}
use lib.Lanes.{zip2}
use mir.Syntax.{w16, w32}
use Rattle.m2v_idct.specs.Block.{at, nth}
use Rattle.m2v_idct.specs.Forward.{cosine, projection}
use Rattle.m2v_idct.specs.ForwardLanes.{eight, folded, four_times, neighbours}
use Rattle.m2v_idct.specs.Ranges.{IsSample, Within}
use Rattle.m2v_idct.specs.Sums.{sum_below}
use Rattle.m2v_idct.proofs.AllLanes.{all_eight, fits_short, fits_word, short_told, word_told, told_as, told_as_within, told_is, wider}
use Rattle.m2v_idct.proofs.Bounds.{single_between}
use Rattle.m2v_idct.proofs.ForwardSteps.{all_mapped}
use Rattle.m2v_idct.proofs.Projections.{eight_at, eight_cases, eight_same, projection_listed}
use Rattle.m2v_idct.proofs.FourLanes.{difference_bound, sum_bound}

abbrev pub first_cosines : List ℤ
first_cosines =
    pos 23168 ∷ pos 23168 ∷ pos 32136 ∷ pos 27248 ∷ pos 30272 ∷ pos 12536 ∷ pos 27248 ∷ neg_ℤ (pos 6392)
    ∷ pos 23168 ∷ neg_ℤ (pos 23168) ∷ pos 18208 ∷ neg_ℤ (pos 32136) ∷ pos 12536 ∷ neg_ℤ (pos 30272) ∷ pos 6392 ∷ neg_ℤ (pos 18208) ∷ []

abbrev pub second_cosines : List ℤ
second_cosines =
    pos 23168 ∷ pos 23168 ∷ pos 18208 ∷ pos 6392 ∷ neg_ℤ (pos 12536) ∷ neg_ℤ (pos 30272) ∷ neg_ℤ (pos 32136) ∷ neg_ℤ (pos 18208)
    ∷ neg_ℤ (pos 23168) ∷ pos 23168 ∷ pos 6392 ∷ pos 27248 ∷ pos 30272 ∷ neg_ℤ (pos 12536) ∷ pos 27248 ∷ neg_ℤ (pos 32136) ∷ []

abbrev times : List ℤ → List ℤ → List ℤ
times = zip2 (λ (a b : ℤ). a *ℤ b)

abbrev pub first_four : List ℤ → List ℤ
first_four x = four_times (get_or x 0 (pos 0)) (get_or x 1 (pos 0)) (get_or x 4 (pos 0)) (get_or x 5 (pos 0))

abbrev pub second_four : List ℤ → List ℤ
second_four x = four_times (get_or x 2 (pos 0)) (get_or x 3 (pos 0)) (get_or x 6 (pos 0)) (get_or x 7 (pos 0))

module _ (g : ℕ → ℤ) where
  abbrev lane : ℕ → ℤ
  lane u = get_or (neighbours (times first_cosines (first_four (folded g)))) u (pos 0) +ℤ get_or (neighbours (times second_cosines (second_four (folded g)))) u (pos 0)

  each : (u : ℕ) → u < 8 → lane u ≡ pos 8 *ℤ projection u g
  unfolding projection sum_below cosine
  each = eight_cases (λ u. lane u ≡ pos 8 *ℤ projection u g)
      (omega (arith, ints)) (omega (arith, ints)) (omega (arith, ints)) (omega (arith, ints))
      (omega (arith, ints)) (omega (arith, ints)) (omega (arith, ints)) (omega (arith, ints))

  pub lanes_are : zip2 (λ (a b : ℤ). a +ℤ b) (neighbours (times first_cosines (first_four (folded g)))) (neighbours (times second_cosines (second_four (folded g))))
      ≡ eight (λ u. pos 8 *ℤ projection u g)
  lanes_are = eight_same lane (λ u. pos 8 *ℤ projection u g) each

  -- the sums of a line of samples are small
  module _ (samples : (k : ℕ) → k < 8 → IsSample (g k)) where
    scaled_small : (z : ℤ) → (neg_ℤ (pos 5931008) ≤ℤ z) × (z ≤ℤ pos 5919424) → Within 67200000 (pos 8 *ℤ z)
    scaled_small z h = (omega (arith, ints, h), omega (arith, ints, h))

    pub line_small : All (Within 67200000) (eight (λ u. pos 8 *ℤ projection u g))
    line_small = all_eight 67200000 (λ u. pos 8 *ℤ projection u g) (λ u lt. scaled_small (projection u g) (single_between u g lt samples))

    small : (k : ℕ) → k < 8 → Within 256 (g k)
    small k lt = let s = samples k lt in (omega (arith, ints, s), omega (arith, ints, s))

    pub folded_small : All (Within 512) (folded g)
    folded_small =
        let h0 = small 0 (omega arith) in let h1 = small 1 (omega arith) in let h2 = small 2 (omega arith) in let h3 = small 3 (omega arith) in
        let h4 = small 4 (omega arith) in let h5 = small 5 (omega arith) in let h6 = small 6 (omega arith) in let h7 = small 7 (omega arith) in
        let s = sum_bound 256 256 512 (omega arith) in let d = difference_bound 256 256 512 (omega arith) in
        All-from_recursion (Within 512) (folded g)
        (s _ _ h0 h7, (s _ _ h1 h6, (s _ _ h2 h5, (s _ _ h3 h4, (d _ _ h0 h7, (d _ _ h1 h6, (d _ _ h2 h5, (d _ _ h3 h4, tt))))))))

    all_four_times : (a b c d : ℤ) → Within 512 a → Within 512 b → Within 512 c → Within 512 d → All (Within 512) (four_times a b c d)
    all_four_times a b c d ha hb hc hd =
        All-from_recursion (Within 512) (four_times a b c d)
        (ha, (hb, (hc, (hd, (ha, (hb, (hc, (hd, (ha, (hb, (hc, (hd, (ha, (hb, (hc, (hd, tt))))))))))))))))

    at_folded : (k : ℕ) → k < 8 → Within 512 (get_or (folded g) k (pos 0))
    at_folded k lt = folded_small k (pos 0) lt

    first_small : All (Within 512) (first_four (folded g))
    first_small = all_four_times _ _ _ _ (at_folded 0 (omega arith)) (at_folded 1 (omega arith)) (at_folded 4 (omega arith)) (at_folded 5 (omega arith))

    second_small : All (Within 512) (second_four (folded g))
    second_small = all_four_times _ _ _ _ (at_folded 2 (omega arith)) (at_folded 3 (omega arith)) (at_folded 6 (omega arith)) (at_folded 7 (omega arith))

    module _ (x : List ℤ) (ex : x ≡ folded g) where
      x_is : short_told x ≡ folded g
      x_is = told_as w16 32767 fits_short 512 x (folded g) (omega arith) ex folded_small

      pub folded_within : All (Within 512) (short_told x)
      folded_within = told_as_within w16 32767 fits_short 512 x (folded g) (omega arith) ex folded_small

      module _ (p q : List ℤ) (ep : p ≡ first_four (short_told x)) (eq : q ≡ second_four (short_told x)) where
        p_is : p ≡ first_four (folded g)
        p_is = ep ∙ ap first_four x_is

        q_is : q ≡ second_four (folded g)
        q_is = eq ∙ ap second_four x_is

        pub firsts_within : All (Within 4096) (short_told p)
        firsts_within = wider 512 4096 (omega arith) _ (told_as_within w16 32767 fits_short 512 p _ (omega arith) p_is first_small)

        pub seconds_within : All (Within 4096) (short_told q)
        seconds_within = wider 512 4096 (omega arith) _ (told_as_within w16 32767 fits_short 512 q _ (omega arith) q_is second_small)

        module _ (a b s : List ℤ) (ea : a ≡ neighbours (times first_cosines (short_told p))) (eb : b ≡ neighbours (times second_cosines (short_told q)))
            (ha : All (Within 268435456) a) (hb : All (Within 268435456) b) (es : s ≡ zip2 (λ (y z : ℤ). y +ℤ z) (word_told a) (word_told b)) where
          s_is : s ≡ eight (λ u. pos 8 *ℤ projection u g)
          s_is =
              let a_is = told_is w32 2147483647 fits_word a (wider 268435456 2147483647 (omega arith) a ha) ∙ ea
              ∙ ap (λ (t : List ℤ). neighbours (times first_cosines t)) (told_as w16 32767 fits_short 512 p _ (omega arith) p_is first_small) in
              let b_is = told_is w32 2147483647 fits_word b (wider 268435456 2147483647 (omega arith) b hb) ∙ eb
              ∙ ap (λ (t : List ℤ). neighbours (times second_cosines t)) (told_as w16 32767 fits_short 512 q _ (omega arith) q_is second_small) in
              es ∙ (λ i. zip2 (λ (y z : ℤ). y +ℤ z) (a_is i) (b_is i)) ∙ lanes_are

          pub sums_are : word_told s ≡ eight (λ u. pos 8 *ℤ projection u g)
          sums_are = told_as w32 2147483647 fits_word 67200000 s _ (omega arith) s_is line_small

          pub sums_within : All (Within 67200000) (word_told s)
          sums_within = told_as_within w32 2147483647 fits_word 67200000 s _ (omega arith) s_is line_small

pub samples_of : (f : List ℤ) → length f ≡ 8 → All IsSample f → (k : ℕ) → k < 8 → IsSample (get_or f k (pos 0))
samples_of f long h k lt = h k (pos 0) (omega (arith, long))

-- one of the parts of a line's sums
pub part_at : (part : ℤ → ℤ) (f : List ℤ) (y : ℕ) (row p : List ℤ)
    → row ≡ at f y 0 ∷ at f y 1 ∷ at f y 2 ∷ at f y 3 ∷ at f y 4 ∷ at f y 5 ∷ at f y 6 ∷ at f y 7 ∷ []
    → p ≡ map part (eight (λ u. pos 8 *ℤ projection u (nth row)))
    → (u : ℕ) → u < 8 → get_or p u (pos 0) ≡ part (pos 8 *ℤ projection u (at f y))
part_at part f y row p er ep u lu =
    ap (λ (t : List ℤ). get_or t u (pos 0)) ep
    ∙ sym (eight_at (pos 0) (λ v. part (pos 8 *ℤ projection v (nth row))) u lu)
    ∙ ap (λ z. part (pos 8 *ℤ z)) (projection_listed u (at f y) row er)

pub part_small : (n : ℕ) (part : ℤ → ℤ) (sums p : List ℤ) → n ≤ 8191 → ((z : ℤ) → Within 67200000 z → Within n (part z)) → All (Within 67200000) sums
    → p ≡ map part sums → All (Within 8191) (short_told p)
part_small n part sums p le bound small e =
    wider n 8191 le (short_told p) (told_as_within w16 32767 fits_short n p (map part sums) (omega (arith, le)) e (all_mapped 67200000 n part bound sums small))

pub part_told : (n : ℕ) (part : ℤ → ℤ) → ((z : ℤ) → Within 67200000 z → Within n (part z)) → (f : List ℤ) (y : ℕ) (row sums p : List ℤ) → n ≤ 8191
    → row ≡ at f y 0 ∷ at f y 1 ∷ at f y 2 ∷ at f y 3 ∷ at f y 4 ∷ at f y 5 ∷ at f y 6 ∷ at f y 7 ∷ []
    → sums ≡ eight (λ u. pos 8 *ℤ projection u (nth row)) → All (Within 67200000) sums → p ≡ map part (word_told sums)
    → (u : ℕ) → u < 8 → get_or (short_told p) u (pos 0) ≡ part (pos 8 *ℤ projection u (at f y))
part_told n part bound f y row sums p le er es small ep u lu =
    let same : word_told sums ≡ sums = told_is w32 2147483647 fits_word sums (wider 67200000 2147483647 (omega arith) sums small) in
    let p_is : p ≡ map part sums = ep ∙ ap (map part) same in
    ap (λ (t : List ℤ). get_or t u (pos 0)) (told_as w16 32767 fits_short n p (map part sums) (omega (arith, le)) p_is (all_mapped 67200000 n part bound sums small))
    ∙ part_at part f y row (map part sums) er (ap (map part) es) u lu
