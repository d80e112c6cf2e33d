-- The ranges of vectors' numbers.
use Rattle.std.proofs.Common.{ℕ, zero, suc, ◌-◌, ◌^◌, ◌<◌, ◌≤◌, List, [], ◌∷◌, ℤ, pos, neg_ℤ, ◌≤ℤ◌, arith}
use Rattle.std.specs.Prelude.{slice_index_or}
use Rattle.std.proofs.lemmas.Int.{ints}
use Rattle.std.proofs.lemmas.Nat.{pow_pos}
use Rattle.std.proofs.Math.Nat.{pow-le-pow_right}
use Rattle.m2v_vector.specs.Predictors.{zeros, AreSmall}

pub powers : (n : ℕ) → n ≤ 9 → (0 < 2 ^ (n - 1)) × (2 ^ (n - 1) ≤ 256)
powers n le = let most : 2 ^ (n - 1) ≤ 2 ^ 8 = pow-le-pow_right {n = 2} (omega arith) {i = n - 1} {j = 8} (omega arith) in (pow_pos (n - 1), omega arith)

-- the numbers of a vector have a size of at most 2 ^ 16
pub Small : List ℤ → Type 0
Small v = (k : ℕ) → (neg_ℤ (pos (2 ^ 16)) ≤ℤ slice_index_or v k (pos 0)) × (slice_index_or v k (pos 0) ≤ℤ pos (2 ^ 16))

pub zeros_small : Small zeros
unfolding Small
zeros_small zero = (omega (arith, ints), omega (arith, ints))
zeros_small (suc zero) = (omega (arith, ints), omega (arith, ints))
zeros_small (suc (suc n)) = (omega (arith, ints), omega (arith, ints))

pub two_small : (x y : ℤ) → (neg_ℤ (pos (2 ^ 16)) ≤ℤ x) × (x ≤ℤ pos (2 ^ 16)) → (neg_ℤ (pos (2 ^ 16)) ≤ℤ y) × (y ≤ℤ pos (2 ^ 16)) → Small (x ∷ y ∷ [])
unfolding Small
two_small x y p q zero = p
two_small x y p q (suc zero) = q
two_small x y p q (suc (suc n)) = (omega (arith, ints), omega (arith, ints))

pub all_small : (a b c d : List ℤ) → Small a → Small b → Small c → Small d → AreSmall ((a ∷ b ∷ []) ∷ (c ∷ d ∷ []) ∷ [])
unfolding Small
all_small a b c d p q r s zero zero k = p k
all_small a b c d p q r s zero (suc zero) k = q k
all_small a b c d p q r s zero (suc (suc n)) k = (omega (arith, ints), omega (arith, ints))
all_small a b c d p q r s (suc zero) zero k = r k
all_small a b c d p q r s (suc zero) (suc zero) k = s k
all_small a b c d p q r s (suc zero) (suc (suc n)) k = (omega (arith, ints), omega (arith, ints))
all_small a b c d p q r s (suc (suc m)) e k = (omega (arith, ints), omega (arith, ints))
