-- The inverse transform of Annex A of ISO/IEC 13818-2, in the whole numbers of the reference decoder of the
-- MPEG Software Simulation Group (idct.c of mpeg2decode): first the rows of a block, then the columns of what
-- the rows leave. `int_shr z n` is z / 2 ^ n, rounded down.
use Rattle.std.specs.Prelude.{ℕ, ◌/◌, ◌%◌, List, [], ◌∷◌, map, ℤ, pos, neg_ℤ, ◌+ℤ◌, ◌-ℤ◌, ◌*ℤ◌}
use Rattle.std.specs.Int.{int_shr, int_max, int_min}
use Rattle.std.specs.List.{range_with_len}
use Rattle.m2v_idct.specs.Block.{at, nth}

-- 2048 times the root of two and the cosine of k sixteenths of a half turn, to the nearest, as idct.c names them
abbrev pub w1 : ℤ
w1 = pos 2841

abbrev pub w2 : ℤ
w2 = pos 2676

abbrev pub w3 : ℤ
w3 = pos 2408

abbrev pub w5 : ℤ
w5 = pos 1609

abbrev pub w6 : ℤ
w6 = pos 1108

abbrev pub w7 : ℤ
w7 = pos 565

-- 181 / 256 of t, to the nearest
unfoldable pub scaled : ℤ → ℤ
scaled t = int_shr (pos 181 *ℤ t +ℤ pos 128) 8

-- the eight results of a row or a column from its eight terms
unfoldable pub combine : ℤ → ℤ → ℤ → ℤ → ℤ → ℤ → ℤ → ℤ → ℕ → List ℤ
combine a1 a7 a5 a3 e2 e6 p m n =
    int_shr (p +ℤ e2 +ℤ (a1 +ℤ a5)) n
    ∷ int_shr (m +ℤ e6 +ℤ scaled ((a1 -ℤ a5) +ℤ (a7 -ℤ a3))) n
    ∷ int_shr (m -ℤ e6 +ℤ scaled ((a1 -ℤ a5) -ℤ (a7 -ℤ a3))) n
    ∷ int_shr (p -ℤ e2 +ℤ (a7 +ℤ a3)) n
    ∷ int_shr (p -ℤ e2 -ℤ (a7 +ℤ a3)) n
    ∷ int_shr (m -ℤ e6 -ℤ scaled ((a1 -ℤ a5) -ℤ (a7 -ℤ a3))) n
    ∷ int_shr (m +ℤ e6 -ℤ scaled ((a1 -ℤ a5) +ℤ (a7 -ℤ a3))) n
    ∷ int_shr (p +ℤ e2 -ℤ (a1 +ℤ a5)) n ∷ []

-- an eighth, to the nearest
unfoldable pub eighth : ℤ → ℤ
eighth t = int_shr (t +ℤ pos 4) 3

-- the results of the row b 0 .. b 7
unfoldable pub row : (ℕ → ℤ) → List ℤ
row b = combine
    (w1 *ℤ b 1 +ℤ w7 *ℤ b 7)
    (w7 *ℤ b 1 -ℤ w1 *ℤ b 7)
    (w3 *ℤ b 3 +ℤ w5 *ℤ b 5)
    (w3 *ℤ b 5 -ℤ w5 *ℤ b 3)
    (w2 *ℤ b 2 +ℤ w6 *ℤ b 6)
    (w6 *ℤ b 2 -ℤ w2 *ℤ b 6)
    (pos 2048 *ℤ (b 0 +ℤ b 4) +ℤ pos 128)
    (pos 2048 *ℤ (b 0 -ℤ b 4) +ℤ pos 128)
    8

-- the results of the column c 0 .. c 7, not yet clipped
unfoldable pub column : (ℕ → ℤ) → List ℤ
column c = combine
    (eighth (w1 *ℤ c 1 +ℤ w7 *ℤ c 7))
    (eighth (w7 *ℤ c 1 -ℤ w1 *ℤ c 7))
    (eighth (w3 *ℤ c 3 +ℤ w5 *ℤ c 5))
    (eighth (w3 *ℤ c 5 -ℤ w5 *ℤ c 3))
    (eighth (w2 *ℤ c 2 +ℤ w6 *ℤ c 6))
    (eighth (w6 *ℤ c 2 -ℤ w2 *ℤ c 6))
    (pos 256 *ℤ (c 0 +ℤ c 4) +ℤ pos 8192)
    (pos 256 *ℤ (c 0 -ℤ c 4) +ℤ pos 8192)
    14

-- the nearest number from -256 to 255
abbrev pub clip : ℤ → ℤ
clip z = int_max (neg_ℤ (pos 256)) (int_min z (pos 255))

-- what the rows of the block b leave in line y and column x
unfoldable pub after_rows : List ℤ → ℕ → ℕ → ℤ
after_rows b y x = nth (row (at b y)) x

-- the sample, or the difference, in line y and column x
unfoldable pub inverse_at : List ℤ → ℕ → ℕ → ℤ
inverse_at b y x = clip (nth (column (λ k. after_rows b k x)) y)

-- the 64 samples of a block of coefficients
unfoldable pub inverse_of : List ℤ → List ℤ
inverse_of b = map (λ k. inverse_at b (k / 8) (k % 8)) (range_with_len 0 64)
