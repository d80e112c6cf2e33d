-- The sum of the samples of a row.
use Rattle.std.proofs.Common.{◌≡◌, ℕ, zero, suc, ◌+◌, ◌-◌, ◌*◌, ◌≤◌, List, [], ◌∷◌, length, take, drop, refl, ap, ◌∙◌, arith}
use Rattle.std.proofs.Math.Seq.{take-nil, take-length}
use Rattle.std.specs.Prelude.{sum}
use Rattle.std.proofs.lemmas.List.{length-take}
use Rattle.std.proofs.lemmas.List.FromFn.{length-map-range_with_len}
use Rattle.std.proofs.lemmas.List.Sums.{sum_by-cons}
use Rattle.m2v_plane.specs.declared.planes.Plane.{Plane}
use Rattle.m2v_plane.specs.Sizes.{columns_of}
use Rattle.m2v_plane.specs.Samples.{Samples, sample_of, line_part}
use Rattle.m2v_dec_batch.specs.Values.{lines_sum}

pub none_summed : (xs : Samples) (plane : Plane) → 0 ≡ lines_sum xs plane 0
unfolding lines_sum
none_summed xs plane = refl

pub line_summed : (xs : Samples) (plane : Plane) (n total own columns : ℕ) (line : List ℕ) → total ≡ lines_sum xs plane n → own ≡ sum line → line ≡ line_part (sample_of xs plane n) 0 columns → columns ≡ columns_of xs.dims plane
    → total + own ≡ lines_sum xs plane (n + 1)
unfolding lines_sum
line_summed xs plane n total own columns line et eo el ec =
    let next : suc n ≡ n + 1 = omega arith in
    ap (λ (k : ℕ). k + own) et
    ∙ ap (λ (k : ℕ). lines_sum xs plane n + k) (eo ∙ ap sum (el ∙ ap (line_part (sample_of xs plane n) 0) ec))
    ∙ ap (lines_sum xs plane) next

pub line_few : (xs : Samples) (plane : Plane) (n columns : ℕ) (line : List ℕ) → line ≡ line_part (sample_of xs plane n) 0 columns → length line ≡ columns
line_few xs plane n columns line e = ap (λ (l : List ℕ). length l) e ∙ length-map-range_with_len (λ (k : ℕ). sample_of xs plane n (0 + k)) 0 columns

-- ---- samples, some at a time

sum_next : (x : ℕ) (xs : List ℕ) → sum (x ∷ xs) ≡ x + sum xs
sum_next x xs = sum_by-cons (λ (k : ℕ). k) x xs

-- the first ones, and some behind them
pub sum_parts : (xs : List ℕ) (a b : ℕ) → sum (take a xs) + sum (take b (drop a xs)) ≡ sum (take (a + b) xs)
sum_parts xs zero b = let e : 0 + b ≡ b = omega arith in omega (arith, ap (λ (n : ℕ). sum (take n xs)) e)
sum_parts [] (suc a) b = omega (arith, ap sum (take-nil b), ap sum (take-nil (suc a + b)))
sum_parts (x ∷ xs) (suc a) b =
    let e : suc a + b ≡ suc (a + b) = omega arith in
    omega (arith, ap (λ (n : ℕ). sum (take n (x ∷ xs))) e, sum_next x (take a xs), sum_next x (take (a + b) xs), sum_parts xs a b)

pub block_few : (n k : ℕ) (xs : List ℕ) → n ≤ 255 * length (take (64 * k + 64 - 64 * k) xs) → n ≤ 16320
block_few n k xs le = omega (arith, le, length-take (64 * k + 64 - 64 * k) xs)

pub block_summed : (xs : List ℕ) (k all own : ℕ) → all ≡ sum (take (64 * k) xs) → own ≡ sum (take (64 * k + 64 - 64 * k) (drop (64 * k) xs)) → all + own ≡ sum (take (64 * (k + 1)) xs)
block_summed xs k all own ea eo =
    let len : 64 * k + 64 - 64 * k ≡ 64 = omega arith in
    let end : 64 * k + 64 ≡ 64 * (k + 1) = omega arith in
    omega (arith, ea, eo, ap (λ (n : ℕ). sum (take n (drop (64 * k) xs))) len, sum_parts xs (64 * k) 64, ap (λ (n : ℕ). sum (take n xs)) end)

pub rest_summed : (xs : List ℕ) (n all own : ℕ) → n ≤ length xs → all ≡ sum (take n xs) → own ≡ sum (take (length xs - n) (drop n xs)) → all + own ≡ sum xs
rest_summed xs n all own le ea eo =
    let end : n + (length xs - n) ≡ length xs = omega (arith, le) in
    omega (arith, ea, eo, sum_parts xs n (length xs - n), ap (λ (m : ℕ). sum (take m xs)) end, ap sum (take-length xs))
