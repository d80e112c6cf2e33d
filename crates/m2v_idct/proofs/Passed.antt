-- A signed number that is passed or computed stands in a goal as its bits, read again. Where it fits, that is the
-- number itself.
use Rattle.std.proofs.Common.{◌<◌, ◌≤◌, ◌^◌, ◌≡◌, ℕ, All, List, length, get_or, arith, ◌∙◌, ℤ, pos, negsuc, ◌+ℤ◌, ◌-ℤ◌}
use Rattle.std.specs.Int.{int_shr}
use Rattle.std.proofs.lemmas.Int.{ints, to_z-of_z}
use lib.Signed.{mag}
use mir.Syntax.{w32}
use mir.Val.{SFits, to_z, of_z}
use Rattle.m2v_idct.specs.Ranges.{IsCoefficient, Within}

pub fits : (n : ℕ) (z : ℤ) → n < 2 ^ 31 → Within n z → SFits w32 z
fits n (pos a) small h = record { sfits = omega (arith, ints, h.0, h.1) }
fits n (negsuc a) small h = record { sfits = omega (arith, ints, h.0, h.1) }

pub passed : (n : ℕ) (z : ℤ) → n < 2 ^ 31 → Within n z → to_z w32 (of_z w32 z) ≡ z
passed n z small h = to_z-of_z w32 z (fits n z small h)

pub passed_within : (n m : ℕ) (z : ℤ) → n < 2 ^ 31 → n ≤ m → Within n z → Within m (to_z w32 (of_z w32 z))
passed_within n m z small le h = rw (passed n z small h) (omega (arith, ints, h.0, h.1), omega (arith, ints, h.0, h.1))

-- a shifted sum of two numbers that were passed, and a difference
pub shifted_sum : (n : ℕ) (x y r : ℤ) → Within 164000000 x → Within 235000000 y → mag r < 2 ^ 31
    → r ≡ int_shr (to_z w32 (of_z w32 x) +ℤ to_z w32 (of_z w32 y)) n → to_z w32 (of_z w32 r) ≡ int_shr (x +ℤ y) n
shifted_sum n x y r hx hy hr e =
    to_z-of_z w32 r (record { sfits = hr }) ∙ e
    ∙ (λ i. int_shr (passed 164000000 x (omega arith) hx i +ℤ passed 235000000 y (omega arith) hy i) n)

pub shifted_difference : (n : ℕ) (x y r : ℤ) → Within 164000000 x → Within 235000000 y → mag r < 2 ^ 31
    → r ≡ int_shr (to_z w32 (of_z w32 x) -ℤ to_z w32 (of_z w32 y)) n → to_z w32 (of_z w32 r) ≡ int_shr (x -ℤ y) n
shifted_difference n x y r hx hy hr e =
    to_z-of_z w32 r (record { sfits = hr }) ∙ e
    ∙ (λ i. int_shr (passed 164000000 x (omega arith) hx i -ℤ passed 235000000 y (omega arith) hy i) n)

-- a number of an array that is passed on
pub read_within : (n m : ℕ) (xs : List ℤ) (i : ℕ) → n < 2 ^ 31 → n ≤ m → i < length xs → All (Within n) xs
    → Within m (to_z w32 (of_z w32 (get_or xs i (pos 0))))
read_within n m xs i small le inside h = passed_within n m (get_or xs i (pos 0)) small le (h i (pos 0) inside)

pub coefficient_within : (z : ℤ) → IsCoefficient z → Within 2048 z
coefficient_within z h = (omega (arith, ints, h), omega (arith, ints, h))
