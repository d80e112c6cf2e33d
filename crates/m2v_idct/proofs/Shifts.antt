use Rattle.std.proofs.Common.{◌≡◌, ℕ, ◌+◌, ◌-◌, ◌*◌, ◌<◌, ◌≤◌, arith, ℤ, pos, negsuc, ◌+ℤ◌, ◌-ℤ◌, ◌*ℤ◌, ◌≤ℤ◌}
use Rattle.std.specs.Int.{int_shr}
use Rattle.std.specs.Int.Signed.{shr_z}
use Rattle.std.proofs.lemmas.Int.{ints}
use Rattle.m2v_idct.specs.Inverse.{scaled}
use Rattle.m2v_idct.specs.Ranges.{Within}

-- r is the whole part of z / d
abbrev pub IsWhole : ℕ → ℤ → ℤ → Type 0
IsWhole d z r = ((pos d *ℤ r) ≤ℤ z) × (z ≤ℤ (pos d *ℤ r +ℤ pos (d - 1)))

whole : (d : ℕ) → 0 < d → (z : ℤ) → IsWhole d z (shr_z z d)
whole d h (pos a) = (omega (arith, ints), omega (arith, ints))
whole d h (negsuc a) = (omega (arith, ints), omega (arith, ints))

-- so is what a shift leaves
pub shr3 : (z : ℤ) → IsWhole 8 z (int_shr z 3)
shr3 = whole 8 (omega arith)

pub shr8 : (z : ℤ) → IsWhole 256 z (int_shr z 8)
shr8 = whole 256 (omega arith)

pub shr13 : (z : ℤ) → IsWhole 8192 z (int_shr z 13)
shr13 = whole 8192 (omega arith)

pub shr14 : (z : ℤ) → IsWhole 16384 z (int_shr z 14)
shr14 = whole 16384 (omega arith)

pub shr16 : (z : ℤ) → IsWhole 65536 z (int_shr z 16)
shr16 = whole 65536 (omega arith)

shr26 : (z : ℤ) → IsWhole 67108864 z (int_shr z 26)
shr26 = whole 67108864 (omega arith)

pub shr26_low : (z : ℤ) → (pos 67108864 *ℤ int_shr z 26) ≤ℤ z
shr26_low z = (shr26 z).0

pub shr26_high : (z : ℤ) → z ≤ℤ (pos 67108864 *ℤ int_shr z 26 +ℤ pos 67108863)
shr26_high z = (shr26 z).1

-- and it is the only one
pub shr8_is : (z r : ℤ) → (pos 256 *ℤ r) ≤ℤ z → z ≤ℤ (pos 256 *ℤ r +ℤ pos 255) → r ≡ int_shr z 8
shr8_is z r low high = let b = shr8 z in omega (arith, ints, b)

-- 181 / 256 by parts
pub scaled_by_parts : (t h l m s r : ℤ) → (pos 256 *ℤ h) ≤ℤ t → t ≤ℤ (pos 256 *ℤ h +ℤ pos 255) → l ≡ t -ℤ pos 256 *ℤ h
    → m ≡ pos 181 *ℤ l +ℤ pos 128 → (pos 256 *ℤ s) ≤ℤ m → m ≤ℤ (pos 256 *ℤ s +ℤ pos 255) → r ≡ pos 181 *ℤ h +ℤ s → r ≡ scaled t
unfolding scaled
scaled_by_parts t h l m s r a b c d e f g = shr8_is (pos 181 *ℤ t +ℤ pos 128) r (omega (arith, ints)) (omega (arith, ints))

-- what is scaled stays small
pub scaled_within : (n m : ℕ) → 181 * n + 127 ≤ 256 * m → (t : ℤ) → Within n t → Within m (scaled t)
unfolding scaled
scaled_within n m le t h = let b = shr8 (pos 181 *ℤ t +ℤ pos 128) in (omega (arith, ints, h, b), omega (arith, ints, h, b))

pub eighth_within : (t : ℤ) → Within 650000000 t → Within 82000000 (int_shr (t +ℤ pos 4) 3)
eighth_within t h = let b = shr3 (t +ℤ pos 4) in (omega (arith, ints, h, b), omega (arith, ints, h, b))
