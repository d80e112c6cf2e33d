-- The forward transform of Annex A of ISO/IEC 13818-2, in whole numbers and rounded once.
use Rattle.std.specs.Prelude.{ℕ, ◌+◌, ◌-◌, ◌*◌, ◌/◌, ◌%◌, ◌^◌, List, [], ◌∷◌, map, slice_index, if◌then◌else◌, nat_eq, nat_lt, ℤ, pos, neg_ℤ, ◌+ℤ◌, ◌*ℤ◌}
use Rattle.std.specs.Int.{int_shr}
use Rattle.std.specs.List.{range_with_len}
use Rattle.m2v_idct.specs.Block.{at}
use Rattle.m2v_idct.specs.Sums.{sum_below}

-- 4096 times the cosine of m sixteenths of a half turn, to the nearest, for m from 0 to 7
abbrev pub first_quarter : ℕ → ℕ
first_quarter m = slice_index (4096 ∷ 4017 ∷ 3784 ∷ 3406 ∷ 2896 ∷ 2276 ∷ 1567 ∷ 799 ∷ []) m

-- the same for m from 0 to 31
abbrev pub turned : ℕ → ℤ
turned m =
    if nat_lt m 8 then pos (first_quarter m)
    else (if nat_lt m 16 then neg_ℤ (pos (first_quarter (16 - m)))
    else (if nat_lt m 24 then neg_ℤ (pos (first_quarter (m - 16)))
    else pos (first_quarter (32 - m))))

-- 4096 times C(u) cos((2 x + 1) u pi / 16), to the nearest: C(0) is the root of a half, any other C(u) is 1
unfoldable pub cosine : ℕ → ℕ → ℤ
cosine u x = if nat_eq u 0 then pos 2896 else turned ((2 * x + 1) * u % 32)

-- a sum of products with two such cosines, divided by 4 * 4096 * 4096, to the nearest
abbrev pub rounded : ℤ → ℤ
rounded z = int_shr (z +ℤ pos (2 ^ 25)) 26

-- the coefficient F(v, u): v counts down the block, u across it
unfoldable pub forward_at : List ℤ → ℕ → ℕ → ℤ
forward_at f v u =
    rounded (sum_below 8 (λ y. sum_below 8 (λ x. cosine v y *ℤ cosine u x *ℤ at f y x)))

-- the 64 coefficients of a block of samples
unfoldable pub forward_of : List ℤ → List ℤ
forward_of f = map (λ k. forward_at f (k / 8) (k % 8)) (range_with_len 0 64)

-- the sum of eight numbers, each times the cosine u of its place
unfoldable pub projection : ℕ → (ℕ → ℤ) → ℤ
projection u g = sum_below 8 (λ k. cosine u k *ℤ g k)

abbrev pub projections : (ℕ → ℤ) → List ℤ
projections g =
    projection 0 g ∷ projection 1 g ∷ projection 2 g ∷ projection 3 g
    ∷ projection 4 g ∷ projection 5 g ∷ projection 6 g ∷ projection 7 g ∷ []
