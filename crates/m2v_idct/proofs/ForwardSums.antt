use Rattle.std.proofs.Common.{◌≡◌, ℕ, ◌+◌, ◌*◌, List, get_or, arith, refl, ap, ◌∙◌, sym, ℤ, pos, ◌+ℤ◌, ◌*ℤ◌}
use Rattle.std.specs.Int.{int_shr}
use Rattle.std.proofs.lemmas.Int.{ints}
use Rattle.m2v_idct.specs.Sums.{sum_below}
use Rattle.m2v_idct.specs.Block.{at}
use Rattle.m2v_idct.specs.Forward.{cosine, forward_at, projection, rounded}
use Rattle.m2v_idct.specs.Ranges.{IsCoefficient, IsDoubleSum}
use Rattle.m2v_idct.proofs.Sums.{sum_below-same, sum_below-times, sum_below-lines, times_times}
use Rattle.m2v_idct.proofs.Shifts.{shr26_low, shr26_high}

-- the cosine at 0 is everywhere the same
cosine_zero : (x : ℕ) → cosine 0 x ≡ pos 2896
unfolding cosine
cosine_zero x = refl

product_zero : (y x : ℕ) (z : ℤ) → cosine 0 y *ℤ cosine 0 x *ℤ z ≡ pos 8386816 *ℤ z
product_zero y x z = rw (cosine_zero y, cosine_zero x) refl

double_zero : (f : List ℤ) → sum_below 8 (λ y. sum_below 8 (λ x. cosine 0 y *ℤ cosine 0 x *ℤ get_or f (8 * y + x) (pos 0)))
    ≡ pos 8386816 *ℤ sum_below 64 (λ k. get_or f k (pos 0))
double_zero f =
    let g : ℕ → ℤ = λ k. get_or f k (pos 0) in
    sum_below-same 8 _ (λ y. pos 8386816 *ℤ sum_below 8 (λ x. g (8 * y + x))) (λ y l.
    sum_below-same 8 _ (λ x. pos 8386816 *ℤ g (8 * y + x)) (λ x m. product_zero y x (g (8 * y + x)))
    ∙ sum_below-times 8 (pos 8386816) (λ x. g (8 * y + x)))
    ∙ sum_below-times 8 (pos 8386816) (λ y. sum_below 8 (λ x. g (8 * y + x)))
    ∙ ap (λ s. pos 8386816 *ℤ s) (sum_below-lines 8 8 g)

pub mean_is : (f : List ℤ) (s : ℤ) → s ≡ sum_below 64 (λ k. get_or f k (pos 0)) → (r : ℤ)
    → r ≡ int_shr (pos 8386816 *ℤ s +ℤ pos 33554432) 26 → r ≡ forward_at f 0 0
unfolding forward_at
mean_is f s e r h = h ∙ ap (λ t. int_shr (t +ℤ pos 33554432) 26) (ap (λ t. pos 8386816 *ℤ t) e ∙ sym (double_zero f))

-- across the block first, then down it
pub forward_by_lines : (f : List ℤ) (v u : ℕ) → forward_at f v u ≡ rounded (projection v (λ y. projection u (at f y)))
unfolding forward_at projection
forward_by_lines f v u =
    ap rounded
    (sum_below-same 8 (λ y. sum_below 8 (λ x. cosine v y *ℤ cosine u x *ℤ at f y x))
    (λ y. cosine v y *ℤ sum_below 8 (λ x. cosine u x *ℤ at f y x))
    (λ y l. sum_below-same 8 (λ x. cosine v y *ℤ cosine u x *ℤ at f y x) (λ x. cosine v y *ℤ (cosine u x *ℤ at f y x))
    (λ x m. times_times (cosine v y) (cosine u x) (at f y x))
    ∙ sum_below-times 8 (cosine v y) (λ x. cosine u x *ℤ at f y x)))

pub rounded_within : (z : ℤ) → IsDoubleSum z → IsCoefficient (rounded z)
rounded_within z h =
    let l = shr26_low (z +ℤ pos 33554432) in
    let u = shr26_high (z +ℤ pos 33554432) in
    (omega (arith, ints, h, l, u), omega (arith, ints, h, l, u))
