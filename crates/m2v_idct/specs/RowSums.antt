-- The sums of which a row's results are made, four at a time.
use Rattle.std.specs.Prelude.{ℕ, List, [], ◌∷◌, ℤ, pos, neg_ℤ, ◌+ℤ◌, ◌*ℤ◌}
use Rattle.m2v_idct.specs.Block.{nth}
use Rattle.m2v_idct.specs.Inverse.{scaled, w1, w2, w3, w5, w6, w7}

-- a number four times
abbrev pub four : ℤ → List ℤ
four z = z ∷ z ∷ z ∷ z ∷ []

-- of the coefficients 0, 4, 2 and 6 of the row b, with the half that rounds
unfoldable pub even_sums : (ℕ → ℤ) → List ℤ
even_sums b =
    (pos 2048 *ℤ b 0 +ℤ pos 2048 *ℤ b 4 +ℤ pos 128 +ℤ (w2 *ℤ b 2 +ℤ w6 *ℤ b 6))
    ∷ (pos 2048 *ℤ b 0 +ℤ neg_ℤ (pos 2048) *ℤ b 4 +ℤ pos 128 +ℤ (w6 *ℤ b 2 +ℤ neg_ℤ w2 *ℤ b 6))
    ∷ (pos 2048 *ℤ b 0 +ℤ neg_ℤ (pos 2048) *ℤ b 4 +ℤ pos 128 +ℤ (neg_ℤ w6 *ℤ b 2 +ℤ w2 *ℤ b 6))
    ∷ (pos 2048 *ℤ b 0 +ℤ pos 2048 *ℤ b 4 +ℤ pos 128 +ℤ (neg_ℤ w2 *ℤ b 2 +ℤ neg_ℤ w6 *ℤ b 6)) ∷ []

-- of the coefficients 1, 3, 5 and 7: 3406 is w1 + w7, 2276 is w1 - w7, 4017 is w3 + w5 and 799 is w3 - w5
unfoldable pub odd_sums : (ℕ → ℤ) → List ℤ
odd_sums b =
    (w1 *ℤ b 1 +ℤ w3 *ℤ b 3 +ℤ (w5 *ℤ b 5 +ℤ w7 *ℤ b 7))
    ∷ (pos 3406 *ℤ b 1 +ℤ neg_ℤ (pos 799) *ℤ b 3 +ℤ (neg_ℤ (pos 4017) *ℤ b 5 +ℤ neg_ℤ (pos 2276) *ℤ b 7))
    ∷ (pos 2276 *ℤ b 1 +ℤ neg_ℤ (pos 4017) *ℤ b 3 +ℤ (pos 799 *ℤ b 5 +ℤ pos 3406 *ℤ b 7))
    ∷ (w7 *ℤ b 1 +ℤ neg_ℤ w5 *ℤ b 3 +ℤ (w3 *ℤ b 5 +ℤ neg_ℤ w1 *ℤ b 7)) ∷ []

-- the two in the middle scaled
abbrev pub middle_scaled : List ℤ → List ℤ
middle_scaled t = nth t 0 ∷ scaled (nth t 1) ∷ scaled (nth t 2) ∷ nth t 3 ∷ []

-- four results from the left, and four from the right
abbrev pub both_ways : List ℤ → List ℤ → List ℤ
both_ways left right =
    nth left 0 ∷ nth left 1 ∷ nth left 2 ∷ nth left 3 ∷ nth right 3 ∷ nth right 2 ∷ nth right 1 ∷ nth right 0 ∷ []
