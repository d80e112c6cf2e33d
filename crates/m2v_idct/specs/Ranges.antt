-- The ranges of Annex A of ISO/IEC 13818-2: samples on one side of the transforms, coefficients on the other.
use Rattle.std.specs.Prelude.{ℕ, ◌/◌, ◌<◌, ◌≡◌, List, ℤ, pos, neg_ℤ, ◌≤ℤ◌}
use Rattle.std.specs.Int.{bit_at}
use Rattle.m2v_idct.specs.Block.{nth}

-- a sample or a difference of samples, of nine bits
abbrev pub IsSample : ℤ → Type 0
IsSample z = (neg_ℤ (pos 256) ≤ℤ z) × (z ≤ℤ pos 255)

-- a coefficient, of twelve bits
abbrev pub IsCoefficient : ℤ → Type 0
IsCoefficient z = (neg_ℤ (pos 2048) ≤ℤ z) × (z ≤ℤ pos 2047)

-- z lies from -n to n
abbrev pub Within : ℕ → ℤ → Type 0
Within n z = (neg_ℤ (pos n) ≤ℤ z) × (z ≤ℤ pos n)

-- a sum of 64 samples, each times two cosines, is one of these
abbrev pub IsDoubleSum : ℤ → Type 0
IsDoubleSum z = (neg_ℤ (pos 137409593344) ≤ℤ z) × (z ≤ℤ pos 137275404288)

-- a block has numbers other than 0 in those rows alone whose bit is 1
abbrev pub IsInRows : ℕ → List ℤ → Type 0
IsInRows rows b = (k : ℕ) → k < 64 → bit_at rows (k / 8) ≡ 0 → nth b k ≡ pos 0
