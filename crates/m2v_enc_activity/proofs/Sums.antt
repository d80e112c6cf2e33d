-- Sums of samples, and their bounds.
use Rattle.std.proofs.Common.{◌≡◌, ℕ, zero, suc, ◌*◌, ◌<◌, ◌≤◌, List, [], ◌∷◌, length, get_or, replicate, arith, refl, ap, ◌∙◌, subst}
use Rattle.std.specs.Prelude.{sum}
use lib.Lanes.{zip2}
use Rattle.m2v_kernel.specs.Sums.{apart, sad}
use Rattle.m2v_kernel.proofs.Sizes.{sum_is_sum_l, apart_most}

apart_zeros : (xs : List ℕ) → zip2 apart xs (replicate (length xs) 0) ≡ xs
apart_zeros [] = refl
apart_zeros (x ∷ xs) =
    let head : apart x 0 ≡ x = omega arith in
    ap (λ (n : ℕ). n ∷ zip2 apart xs (replicate (length xs) 0)) head ∙ ap (λ (rest : List ℕ). x ∷ rest) (apart_zeros xs)

-- samples lie from 0 as far as their sum
pub sad_zeros : (n : ℕ) (xs : List ℕ) → length xs ≡ n → sad xs (replicate n 0) ≡ sum xs
sad_zeros n xs e = subst (λ (k : ℕ). sad xs (replicate k 0) ≡ sum xs) e (ap sum (apart_zeros xs))

-- a list of one sample has its range
pub same_small : (n a i : ℕ) → a < 256 → get_or (replicate n a) i 0 < 256
same_small zero a i small = omega arith
same_small (suc n) a zero small = small
same_small (suc n) a (suc i) small = same_small n a i small

-- a sum of differences is at most 255 for each sample
pub sad_most : (xs ys : List ℕ) → ((i : ℕ) → get_or xs i 0 < 256) → ((i : ℕ) → get_or ys i 0 < 256) → sad xs ys ≤ 255 * length xs
sad_most xs ys fx fy = omega (arith, apart_most xs ys fx fy, sum_is_sum_l (zip2 apart xs ys))
