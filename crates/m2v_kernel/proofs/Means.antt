-- Means of bytes, as lanes of eight bits compute them.
use Rattle.std.proofs.Common.{◌≡◌, ℕ, zero, suc, ◌+◌, ◌-◌, ◌/◌, ◌%◌, ◌<◌, ◌≤◌, List, [], ◌∷◌, length, get_or, replicate, take, drop, min, max, arith, refl, ◌∙◌}
use Rattle.std.proofs.lemmas.Nat.{and_mask}
use native.Mathlib.Nat.{suc_inj}
use lib.Bits.{bit_and, bit_or, bit_xor, or_add_and, xor_add_and, and_step, or_step}
use lib.Lanes.{zip2}
use borrow.Rule.Simd.Lanes.{act2}
use borrow.Table.Row.{s_int}
use mir.Syntax.{w8, wrap_sub, shr, unsigned}
use mir.Syntax.{bit_and as and_op, bit_or as or_op, bit_xor as xor_op}
use Rattle.m2v_kernel.specs.Sums.{mean, pair, quarter}

abbrev pub SUB : ℕ → ℕ → ℕ
SUB = act2 wrap_sub (s_int w8) (s_int w8) (s_int w8)

abbrev pub OR : ℕ → ℕ → ℕ
OR = act2 or_op (s_int w8) (s_int w8) (s_int w8)

abbrev pub XOR : ℕ → ℕ → ℕ
XOR = act2 xor_op (s_int w8) (s_int w8) (s_int w8)

abbrev pub AND : ℕ → ℕ → ℕ
AND = act2 and_op (s_int w8) (s_int w8) (s_int w8)

abbrev pub SHR : ℕ → ℕ → ℕ
SHR = act2 (shr unsigned) (s_int w8) (s_int w8) (s_int w8)

-- all numbers of a list are bytes
abbrev pub Small : List ℕ → Type 0
Small xs = (i : ℕ) → get_or xs i 0 < 256

pub taken : (n : ℕ) (xs : List ℕ) → Small xs → Small (take n xs)
taken zero xs f i = omega arith
taken (suc n) [] f i = omega arith
taken (suc n) (x ∷ xs) f zero = f 0
taken (suc n) (x ∷ xs) f (suc i) = taken n xs (λ k. f (suc k)) i

pub dropped : (n : ℕ) (xs : List ℕ) → Small xs → Small (drop n xs)
dropped zero xs f = f
dropped (suc n) [] f = λ i. omega arith
dropped (suc n) (x ∷ xs) f = dropped n xs (λ k. f (suc k))

-- the mean of two samples
mean_lane : (a b : ℕ) → a < 256 → b < 256 → SUB (OR a b) (SHR (XOR a b) 1) ≡ mean a b
mean_lane a b ha hb = omega (arith, or_add_and a b, xor_add_and a b)

pub means_are : (n : ℕ) (xs ys : List ℕ) → length xs ≡ n → Small xs → Small ys
    → zip2 SUB (zip2 OR xs ys) (zip2 SHR (zip2 XOR xs ys) (replicate n 1)) ≡ zip2 mean xs ys
means_are n [] ys lx fx fy = refl
means_are n (x ∷ xs) [] lx fx fy = refl
means_are zero (x ∷ xs) (y ∷ ys) lx fx fy = absurd (omega arith)
means_are (suc n) (x ∷ xs) (y ∷ ys) lx fx fy =
    λ i. mean_lane x y (fx 0) (fy 0) i ∷ means_are n xs ys (suc_inj lx) (λ k. fx (suc k)) (λ k. fy (suc k)) i

pub means_small : (xs ys : List ℕ) → Small xs → Small ys → Small (zip2 mean xs ys)
means_small [] ys fx fy i = omega arith
means_small (x ∷ xs) [] fx fy i = omega arith
means_small (x ∷ xs) (y ∷ ys) fx fy zero = omega (arith, fx 0, fy 0)
means_small (x ∷ xs) (y ∷ ys) fx fy (suc i) = means_small xs ys (λ k. fx (suc k)) (λ k. fy (suc k)) i

-- the lowest bits
xor_low : (a b : ℕ) → bit_xor a b % 2 ≡ (a + b) % 2
xor_low a b = omega (arith, xor_add_and a b)

or_low : (a b : ℕ) → bit_or a b % 2 ≡ max (a % 2) (b % 2)
or_low a b = omega (arith, or_step a b)

and_low : (a b : ℕ) → bit_and a b % 2 ≡ min (a % 2) (b % 2)
and_low a b = omega (arith, and_step a b)

-- by how much the mean of two means is too large
abbrev over : ℕ → ℕ → ℕ
over s t = min (max (s % 2) (t % 2)) (((s + 1) / 2 + (t + 1) / 2) % 2)

over_is : (a b c d : ℕ) → bit_and (bit_and (bit_or (bit_xor a b) (bit_xor c d)) (bit_xor (mean a b) (mean c d))) 1 ≡ over (a + b) (c + d)
over_is a b c d =
    and_mask (bit_and (bit_or (bit_xor a b) (bit_xor c d)) (bit_xor (mean a b) (mean c d))) 1
    ∙ and_low (bit_or (bit_xor a b) (bit_xor c d)) (bit_xor (mean a b) (mean c d))
    ∙ (λ i. min (or_low (bit_xor a b) (bit_xor c d) i) (xor_low (mean a b) (mean c d) i))
    ∙ (λ i. min (max (xor_low a b i) (xor_low c d i)) ((mean a b + mean c d) % 2))

over_least : (s t : ℕ) → over s t ≤ ((s + 1) / 2 + (t + 1) / 2 + 1) / 2
over_least s t = omega arith

quarter_over : (s t : ℕ) → ((s + 1) / 2 + (t + 1) / 2 + 1) / 2 - over s t ≡ quarter s t
quarter_over s t = omega arith

quarter_lane : (a b c d : ℕ) → a < 256 → b < 256 → c < 256 → d < 256
    → SUB (mean (mean a b) (mean c d)) (AND (AND (OR (XOR a b) (XOR c d)) (XOR (mean a b) (mean c d))) 1) ≡ quarter (pair a b) (pair c d)
quarter_lane a b c d ha hb hc hd =
    omega (arith, over_is a b c d, over_least (a + b) (c + d), quarter_over (a + b) (c + d))

pub quarters_are : (n : ℕ) (a b c d : List ℕ) → length a ≡ n → length b ≡ n → length c ≡ n → length d ≡ n → Small a → Small b → Small c → Small d
    → zip2 SUB (zip2 mean (zip2 mean a b) (zip2 mean c d))
    (zip2 AND (zip2 AND (zip2 OR (zip2 XOR a b) (zip2 XOR c d)) (zip2 XOR (zip2 mean a b) (zip2 mean c d))) (replicate n 1))
    ≡ zip2 quarter (zip2 pair a b) (zip2 pair c d)
quarters_are zero [] b c d la lb lc ld fa fb fc fd = refl
quarters_are zero (x ∷ a) b c d la lb lc ld fa fb fc fd = absurd (omega arith)
quarters_are (suc n) [] b c d la lb lc ld fa fb fc fd = absurd (omega arith)
quarters_are (suc n) (x ∷ a) [] c d la lb lc ld fa fb fc fd = absurd (omega arith)
quarters_are (suc n) (x ∷ a) (y ∷ b) [] d la lb lc ld fa fb fc fd = absurd (omega arith)
quarters_are (suc n) (x ∷ a) (y ∷ b) (z ∷ c) [] la lb lc ld fa fb fc fd = absurd (omega arith)
quarters_are (suc n) (x ∷ a) (y ∷ b) (z ∷ c) (w ∷ d) la lb lc ld fa fb fc fd =
    λ i. quarter_lane x y z w (fa 0) (fb 0) (fc 0) (fd 0) i
    ∷ quarters_are n a b c d (suc_inj la) (suc_inj lb) (suc_inj lc) (suc_inj ld) (λ k. fa (suc k)) (λ k. fb (suc k)) (λ k. fc (suc k)) (λ k. fd (suc k)) i

pub quarters_small : (a b c d : List ℕ) → Small a → Small b → Small c → Small d → Small (zip2 quarter (zip2 pair a b) (zip2 pair c d))
quarters_small [] b c d fa fb fc fd i = omega arith
quarters_small (x ∷ a) [] c d fa fb fc fd i = omega arith
quarters_small (x ∷ a) (y ∷ b) [] d fa fb fc fd i = omega arith
quarters_small (x ∷ a) (y ∷ b) (z ∷ c) [] fa fb fc fd i = omega arith
quarters_small (x ∷ a) (y ∷ b) (z ∷ c) (w ∷ d) fa fb fc fd zero = omega (arith, fa 0, fb 0, fc 0, fd 0)
quarters_small (x ∷ a) (y ∷ b) (z ∷ c) (w ∷ d) fa fb fc fd (suc i) =
    quarters_small a b c d (λ k. fa (suc k)) (λ k. fb (suc k)) (λ k. fc (suc k)) (λ k. fd (suc k)) i
