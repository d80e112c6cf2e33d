-- What the forward transform by lanes keeps: lines of eight numbers, two of them woven into one, and the parts of a sum.
use Rattle.std.specs.Prelude.{ℕ, List, [], ◌∷◌, ℤ, pos, ◌+◌, ◌*◌, ◌+ℤ◌, ◌-ℤ◌, ◌*ℤ◌}
use Rattle.std.specs.Int.{int_shr}
use Rattle.std.specs.Simd.Lanes.{zip2}
use Rattle.m2v_idct.specs.Block.{nth}
use Rattle.m2v_idct.specs.Forward.{rounded}

-- a line of eight
abbrev pub eight : (ℕ → ℤ) → List ℤ
eight f = f 0 ∷ f 1 ∷ f 2 ∷ f 3 ∷ f 4 ∷ f 5 ∷ f 6 ∷ f 7 ∷ []

-- two lines of eight, a number of either in turn
abbrev pub woven : (ℕ → ℤ) → (ℕ → ℤ) → List ℤ
woven f g =
    f 0 ∷ g 0 ∷ f 1 ∷ g 1 ∷ f 2 ∷ g 2 ∷ f 3 ∷ g 3
    ∷ f 4 ∷ g 4 ∷ f 5 ∷ g 5 ∷ f 6 ∷ g 6 ∷ f 7 ∷ g 7 ∷ []

-- the sums of neighbours, of sixteen numbers
abbrev pub neighbours : List ℤ → List ℤ
neighbours p = eight (λ k. nth p (2 * k) +ℤ nth p (2 * k + 1))

-- eight times a sum of products, above its low sixteen bits
abbrev pub high_of : ℤ → ℤ
high_of z = int_shr z 16

-- and what that leaves, divided by eight again
abbrev pub low_of : ℤ → ℤ
low_of z = int_shr (z -ℤ pos 65536 *ℤ high_of z) 3

-- the even part of a line of eight, and the odd one
abbrev pub folded : (ℕ → ℤ) → List ℤ
folded f =
    (f 0 +ℤ f 7) ∷ (f 1 +ℤ f 6) ∷ (f 2 +ℤ f 5) ∷ (f 3 +ℤ f 4)
    ∷ (f 0 -ℤ f 7) ∷ (f 1 -ℤ f 6) ∷ (f 2 -ℤ f 5) ∷ (f 3 -ℤ f 4) ∷ []

-- a line of four numbers, four times
abbrev pub four_times : ℤ → ℤ → ℤ → ℤ → List ℤ
four_times a b c d =
    a ∷ b ∷ c ∷ d ∷ a ∷ b ∷ c ∷ d ∷ a ∷ b ∷ c ∷ d ∷ a ∷ b ∷ c ∷ d ∷ []

-- of two lines that are woven, a times the one and b times the other
abbrev pub weighed : List ℤ → ℤ → ℤ → List ℤ
weighed x a b = neighbours (zip2 (λ y z. y *ℤ z) x (woven (λ k. a) (λ k. b)))

-- sums in their two parts, in the scale of coefficients
abbrev pub all_rounded : List ℤ → List ℤ → List ℤ
all_rounded = zip2 (λ h l. rounded (pos 8192 *ℤ h +ℤ l))

-- of the lines of a block, the even part of the columns' even parts, two lines woven, and the odd one
abbrev pub evens_of : (ℕ → ℕ → ℤ) → List ℤ
evens_of p =
    woven (λ k. p 0 k +ℤ p 7 k +ℤ (p 3 k +ℤ p 4 k)) (λ k. p 1 k +ℤ p 6 k +ℤ (p 2 k +ℤ p 5 k))

abbrev pub odds_of : (ℕ → ℕ → ℤ) → List ℤ
odds_of p =
    woven (λ k. p 0 k +ℤ p 7 k -ℤ (p 3 k +ℤ p 4 k)) (λ k. p 1 k +ℤ p 6 k -ℤ (p 2 k +ℤ p 5 k))

-- the odd parts of the two lines at each end, and of those in the middle
abbrev pub outer_of : (ℕ → ℕ → ℤ) → List ℤ
outer_of p = woven (λ k. p 0 k -ℤ p 7 k) (λ k. p 1 k -ℤ p 6 k)

abbrev pub inner_of : (ℕ → ℕ → ℤ) → List ℤ
inner_of p = woven (λ k. p 3 k -ℤ p 4 k) (λ k. p 2 k -ℤ p 5 k)
