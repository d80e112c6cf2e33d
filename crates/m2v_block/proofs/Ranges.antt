-- The ranges of numbers.
use Rattle.std.proofs.Common.{◌≡◌, ℕ, ◌+◌, ◌^◌, ◌<◌, ◌≤◌, All, replicate, Result, Ok, Err, ℤ, pos, negsuc, ◌-ℤ◌, arith}
use Rattle.std.specs.Prelude.{IfOk, unsigned_abs}
use Rattle.std.proofs.lemmas.Int.{ints, to_z-of_z, fits_signed_from_abs}
use mir.Syntax.{w32}
use mir.Val.{SFits, to_z, of_z}
use Rattle.std.proofs.lemmas.List.Elements.{All-replicate}
use Rattle.std.proofs.Math.Nat.{pow-le-pow_right}
use Rattle.m2v_quant.specs.Kinds.{IsLevel}
use Rattle.m2v_block.specs.declared.fault.BlockFault.{BlockFault}
use Rattle.m2v_block.specs.Blocks.{IsDc}

pub power_most : (n : ℕ) → n < 12 → 2 ^ n ≤ 2048
power_most n lt =
    let most : 2 ^ n ≤ 2 ^ 11 = pow-le-pow_right {n = 2} (omega arith) {i = n} {j = 11} (omega arith) in
    omega arith

-- a DC level is a level
pub dc_is_level : (precision : ℕ) (z : ℤ) → precision ≤ 3 → IsDc precision z → IsLevel z
dc_is_level precision z le h =
    let most : 2 ^ (8 + precision) ≤ 2048 = power_most (8 + precision) (omega arith) in
    (omega (arith, ints, h.0, h.1), omega (arith, ints, h.0, h.1))

pub dc_read : (precision : ℕ) (r : Result ℤ BlockFault) → precision ≤ 3 → IfOk r (λ v. IsDc precision v) → IfOk r (λ v. IsLevel v)
dc_read precision (Ok v) le h = dc_is_level precision v le h
dc_read precision (Err e) le h = h

-- the difference of two DC levels has at most 11 bits
pub dc_difference : (precision : ℕ) (a b : ℤ) → precision ≤ 3 → IsDc precision a → IsDc precision b → unsigned_abs (a -ℤ b) < 2 ^ 11
dc_difference precision (pos a) (pos b) le p q =
    let most : 2 ^ (8 + precision) ≤ 2048 = power_most (8 + precision) (omega arith) in
    omega (arith, ints, p.0, p.1, q.0, q.1)
dc_difference precision (pos a) (negsuc b) le p q = absurd (omega (arith, ints, q.0))
dc_difference precision (negsuc a) b le p q = absurd (omega (arith, ints, p.0))

-- a DC level of a precision is one of the greatest precision
pub dc_wider : (precision : ℕ) (z : ℤ) → precision ≤ 3 → IsDc precision z → IsDc 3 z
dc_wider precision z le h =
    let most : 2 ^ (8 + precision) ≤ 2048 = power_most (8 + precision) (omega arith) in
    (h.0, omega (arith, ints, h.1, most))

pub zeros_levels : All IsLevel (replicate 64 (pos 0))
zeros_levels =
    let zero : IsLevel (pos 0) = (omega (arith, ints), omega (arith, ints)) in
    All-replicate IsLevel 64 (pos 0) zero

pub level_fits : (z : ℤ) → IsLevel z → SFits w32 z
level_fits (pos n) h = record { sfits = omega (arith, ints, h.0, h.1) }
level_fits (negsuc n) h = record { sfits = omega (arith, ints, h.0, h.1) }

-- the same difference of numbers that were passed
pub difference_is : (precision : ℕ) (a b : ℤ) → precision ≤ 3 → IsDc precision a → IsDc precision b
    → to_z w32 (of_z w32 (to_z w32 (of_z w32 a) -ℤ to_z w32 (of_z w32 b))) ≡ a -ℤ b
difference_is precision a b le p q =
    let small = dc_difference precision a b le p q in
    let fits : SFits w32 (a -ℤ b) = fits_signed_from_abs w32 (a -ℤ b) (omega (arith, small)) in
    let fa = level_fits a (dc_is_level precision a le p) in
    let fb = level_fits b (dc_is_level precision b le q) in
    rw (to_z-of_z w32 a fa, to_z-of_z w32 b fb) (to_z-of_z w32 (a -ℤ b) fits)

pub difference_passed : (precision : ℕ) (a b : ℤ) → precision ≤ 3 → IsDc precision a → IsDc precision b
    → unsigned_abs (to_z w32 (of_z w32 (to_z w32 (of_z w32 a) -ℤ to_z w32 (of_z w32 b)))) < 2 ^ 11
difference_passed precision a b le p q = rw (difference_is precision a b le p q) (dc_difference precision a b le p q)
