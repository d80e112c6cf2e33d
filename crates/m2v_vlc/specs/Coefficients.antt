-- The tables of DCT coefficients, tables zero and one of clause 7.2.2.
use Rattle.std.specs.Prelude.{ℕ, ◌+◌, ◌*◌, ◌≤◌, ◌≢◌, Bool, true, false, ◌&&◌, nat_eq, List, [], ◌∷◌, drop, pos, ◌≤ℤ◌}
use Rattle.m2v_vlc.specs.declared.values.Coefficient.{Coefficient}
use Rattle.m2v_vlc.specs.declared.values.Coefficient.TheVariants.{End, Escape, Pair}
use Rattle.m2v_vlc.specs.Codes.{Row, row, code_of}
use Rattle.m2v_vlc.specs.Values.{same_signed, minus}

-- a run of zeros and the size of the level behind it, as Annex B prints them, with a code that a sign bit follows
pub record RunLevel : Type 0 where
  pub run : ℕ
  pub level : ℕ

abbrev pub pair : ℕ → ℕ → RunLevel
pair r l = record { run = r; level = l }

-- the codes with their sign bit, 0 for positive and 1 for negative
unfoldable pub signed : List (Row RunLevel) → List (Row Coefficient)
signed [] = []
signed (r ∷ t) =
    row (Pair (r.value).run (pos (r.value).level)) (2 * r.number) (r.len + 1)
    ∷ row (Pair (r.value).run (minus (r.value).level)) (2 * r.number + 1) (r.len + 1)
    ∷ signed t

unfoldable pub same_coefficient : Coefficient → Coefficient → Bool
same_coefficient End End = true
same_coefficient End Escape = false
same_coefficient End (Pair r l) = false
same_coefficient Escape End = false
same_coefficient Escape Escape = true
same_coefficient Escape (Pair r l) = false
same_coefficient (Pair q k) End = false
same_coefficient (Pair q k) Escape = false
same_coefficient (Pair q k) (Pair r l) = nat_eq q r && same_signed k l

-- what a code can stand for: runs up to 31 and levels from -40 to 40 but 0
abbrev pub IsCoefficient : Coefficient → Type 0
IsCoefficient End = Unit {0}
IsCoefficient Escape = Unit {0}
IsCoefficient (Pair run level) = (run ≤ 31) × (minus 40 ≤ℤ level) × (level ≤ℤ pos 40) × (level ≢ pos 0)

-- the same, but the end of the block
abbrev pub IsFirst : Coefficient → Type 0
IsFirst End = ⊥
IsFirst Escape = Unit {0}
IsFirst (Pair run level) = (run ≤ 31) × (minus 40 ≤ℤ level) × (level ≤ℤ pos 40) × (level ≢ pos 0)

-- Table B.14 without its sign bits, a line for each run
unfoldable pub pairs_zero : List (Row RunLevel)
pairs_zero =
    row (pair 0 1) 0x3 2 ∷ row (pair 0 2) 0x4 4 ∷ row (pair 0 3) 0x5 5 ∷ row (pair 0 4) 0x6 7 ∷ row (pair 0 5) 0x26 8 ∷ row (pair 0 6) 0x21 8 ∷ row (pair 0 7) 0xA 10 ∷ row (pair 0 8) 0x1D 12 ∷ row (pair 0 9) 0x18 12 ∷ row (pair 0 10) 0x13 12 ∷ row (pair 0 11) 0x10 12 ∷ row (pair 0 12) 0x1A 13 ∷ row (pair 0 13) 0x19 13 ∷ row (pair 0 14) 0x18 13 ∷ row (pair 0 15) 0x17 13 ∷ row (pair 0 16) 0x1F 14 ∷ row (pair 0 17) 0x1E 14 ∷ row (pair 0 18) 0x1D 14 ∷ row (pair 0 19) 0x1C 14 ∷ row (pair 0 20) 0x1B 14 ∷ row (pair 0 21) 0x1A 14 ∷ row (pair 0 22) 0x19 14 ∷ row (pair 0 23) 0x18 14 ∷ row (pair 0 24) 0x17 14 ∷ row (pair 0 25) 0x16 14 ∷ row (pair 0 26) 0x15 14 ∷ row (pair 0 27) 0x14 14 ∷ row (pair 0 28) 0x13 14 ∷ row (pair 0 29) 0x12 14 ∷ row (pair 0 30) 0x11 14 ∷ row (pair 0 31) 0x10 14 ∷ row (pair 0 32) 0x18 15 ∷ row (pair 0 33) 0x17 15 ∷ row (pair 0 34) 0x16 15 ∷ row (pair 0 35) 0x15 15 ∷ row (pair 0 36) 0x14 15 ∷ row (pair 0 37) 0x13 15 ∷ row (pair 0 38) 0x12 15 ∷ row (pair 0 39) 0x11 15 ∷ row (pair 0 40) 0x10 15
    ∷ row (pair 1 1) 0x3 3 ∷ row (pair 1 2) 0x6 6 ∷ row (pair 1 3) 0x25 8 ∷ row (pair 1 4) 0xC 10 ∷ row (pair 1 5) 0x1B 12 ∷ row (pair 1 6) 0x16 13 ∷ row (pair 1 7) 0x15 13 ∷ row (pair 1 8) 0x1F 15 ∷ row (pair 1 9) 0x1E 15 ∷ row (pair 1 10) 0x1D 15 ∷ row (pair 1 11) 0x1C 15 ∷ row (pair 1 12) 0x1B 15 ∷ row (pair 1 13) 0x1A 15 ∷ row (pair 1 14) 0x19 15 ∷ row (pair 1 15) 0x13 16 ∷ row (pair 1 16) 0x12 16 ∷ row (pair 1 17) 0x11 16 ∷ row (pair 1 18) 0x10 16
    ∷ row (pair 2 1) 0x5 4 ∷ row (pair 2 2) 0x4 7 ∷ row (pair 2 3) 0xB 10 ∷ row (pair 2 4) 0x14 12 ∷ row (pair 2 5) 0x14 13
    ∷ row (pair 3 1) 0x7 5 ∷ row (pair 3 2) 0x24 8 ∷ row (pair 3 3) 0x1C 12 ∷ row (pair 3 4) 0x13 13
    ∷ row (pair 4 1) 0x6 5 ∷ row (pair 4 2) 0xF 10 ∷ row (pair 4 3) 0x12 12
    ∷ row (pair 5 1) 0x7 6 ∷ row (pair 5 2) 0x9 10 ∷ row (pair 5 3) 0x12 13
    ∷ row (pair 6 1) 0x5 6 ∷ row (pair 6 2) 0x1E 12 ∷ row (pair 6 3) 0x14 16
    ∷ row (pair 7 1) 0x4 6 ∷ row (pair 7 2) 0x15 12
    ∷ row (pair 8 1) 0x7 7 ∷ row (pair 8 2) 0x11 12
    ∷ row (pair 9 1) 0x5 7 ∷ row (pair 9 2) 0x11 13
    ∷ row (pair 10 1) 0x27 8 ∷ row (pair 10 2) 0x10 13
    ∷ row (pair 11 1) 0x23 8 ∷ row (pair 11 2) 0x1A 16
    ∷ row (pair 12 1) 0x22 8 ∷ row (pair 12 2) 0x19 16
    ∷ row (pair 13 1) 0x20 8 ∷ row (pair 13 2) 0x18 16
    ∷ row (pair 14 1) 0xE 10 ∷ row (pair 14 2) 0x17 16
    ∷ row (pair 15 1) 0xD 10 ∷ row (pair 15 2) 0x16 16
    ∷ row (pair 16 1) 0x8 10 ∷ row (pair 16 2) 0x15 16
    ∷ row (pair 17 1) 0x1F 12
    ∷ row (pair 18 1) 0x1A 12
    ∷ row (pair 19 1) 0x19 12
    ∷ row (pair 20 1) 0x17 12
    ∷ row (pair 21 1) 0x16 12
    ∷ row (pair 22 1) 0x1F 13
    ∷ row (pair 23 1) 0x1E 13
    ∷ row (pair 24 1) 0x1D 13
    ∷ row (pair 25 1) 0x1C 13
    ∷ row (pair 26 1) 0x1B 13
    ∷ row (pair 27 1) 0x1F 16
    ∷ row (pair 28 1) 0x1E 16
    ∷ row (pair 29 1) 0x1D 16
    ∷ row (pair 30 1) 0x1C 16
    ∷ row (pair 31 1) 0x1B 16 ∷ []

-- Table B.14, DCT coefficients table zero
unfoldable pub coefficient_zero : List (Row Coefficient)
coefficient_zero = row End 0x2 2 ∷ row Escape 0x1 6 ∷ signed pairs_zero

abbrev pub coefficient_zero_code : Coefficient → List Bool
coefficient_zero_code v = code_of same_coefficient coefficient_zero v

-- Table B.14 at the first coefficient of a block that is not intra: run 0 and level 1 have the short code, and no block ends there
unfoldable pub first_zero : List (Row Coefficient)
first_zero = row Escape 0x1 6 ∷ signed (row (pair 0 1) 0x1 1 ∷ drop 1 pairs_zero)

abbrev pub first_zero_code : Coefficient → List Bool
first_zero_code v = code_of same_coefficient first_zero v

-- Table B.15 without its sign bits, a line for each run
unfoldable pub pairs_one : List (Row RunLevel)
pairs_one =
    row (pair 0 1) 0x2 2 ∷ row (pair 0 2) 0x6 3 ∷ row (pair 0 3) 0x7 4 ∷ row (pair 0 4) 0x1C 5 ∷ row (pair 0 5) 0x1D 5 ∷ row (pair 0 6) 0x5 6 ∷ row (pair 0 7) 0x4 6 ∷ row (pair 0 8) 0x7B 7 ∷ row (pair 0 9) 0x7C 7 ∷ row (pair 0 10) 0x23 8 ∷ row (pair 0 11) 0x22 8 ∷ row (pair 0 12) 0xFA 8 ∷ row (pair 0 13) 0xFB 8 ∷ row (pair 0 14) 0xFE 8 ∷ row (pair 0 15) 0xFF 8 ∷ row (pair 0 16) 0x1F 14 ∷ row (pair 0 17) 0x1E 14 ∷ row (pair 0 18) 0x1D 14 ∷ row (pair 0 19) 0x1C 14 ∷ row (pair 0 20) 0x1B 14 ∷ row (pair 0 21) 0x1A 14 ∷ row (pair 0 22) 0x19 14 ∷ row (pair 0 23) 0x18 14 ∷ row (pair 0 24) 0x17 14 ∷ row (pair 0 25) 0x16 14 ∷ row (pair 0 26) 0x15 14 ∷ row (pair 0 27) 0x14 14 ∷ row (pair 0 28) 0x13 14 ∷ row (pair 0 29) 0x12 14 ∷ row (pair 0 30) 0x11 14 ∷ row (pair 0 31) 0x10 14 ∷ row (pair 0 32) 0x18 15 ∷ row (pair 0 33) 0x17 15 ∷ row (pair 0 34) 0x16 15 ∷ row (pair 0 35) 0x15 15 ∷ row (pair 0 36) 0x14 15 ∷ row (pair 0 37) 0x13 15 ∷ row (pair 0 38) 0x12 15 ∷ row (pair 0 39) 0x11 15 ∷ row (pair 0 40) 0x10 15
    ∷ row (pair 1 1) 0x2 3 ∷ row (pair 1 2) 0x6 5 ∷ row (pair 1 3) 0x79 7 ∷ row (pair 1 4) 0x27 8 ∷ row (pair 1 5) 0x20 8 ∷ row (pair 1 6) 0x16 13 ∷ row (pair 1 7) 0x15 13 ∷ row (pair 1 8) 0x1F 15 ∷ row (pair 1 9) 0x1E 15 ∷ row (pair 1 10) 0x1D 15 ∷ row (pair 1 11) 0x1C 15 ∷ row (pair 1 12) 0x1B 15 ∷ row (pair 1 13) 0x1A 15 ∷ row (pair 1 14) 0x19 15 ∷ row (pair 1 15) 0x13 16 ∷ row (pair 1 16) 0x12 16 ∷ row (pair 1 17) 0x11 16 ∷ row (pair 1 18) 0x10 16
    ∷ row (pair 2 1) 0x5 5 ∷ row (pair 2 2) 0x7 7 ∷ row (pair 2 3) 0xFC 8 ∷ row (pair 2 4) 0xC 10 ∷ row (pair 2 5) 0x14 13
    ∷ row (pair 3 1) 0x7 5 ∷ row (pair 3 2) 0x26 8 ∷ row (pair 3 3) 0x1C 12 ∷ row (pair 3 4) 0x13 13
    ∷ row (pair 4 1) 0x6 6 ∷ row (pair 4 2) 0xFD 8 ∷ row (pair 4 3) 0x12 12
    ∷ row (pair 5 1) 0x7 6 ∷ row (pair 5 2) 0x4 9 ∷ row (pair 5 3) 0x12 13
    ∷ row (pair 6 1) 0x6 7 ∷ row (pair 6 2) 0x1E 12 ∷ row (pair 6 3) 0x14 16
    ∷ row (pair 7 1) 0x4 7 ∷ row (pair 7 2) 0x15 12
    ∷ row (pair 8 1) 0x5 7 ∷ row (pair 8 2) 0x11 12
    ∷ row (pair 9 1) 0x78 7 ∷ row (pair 9 2) 0x11 13
    ∷ row (pair 10 1) 0x7A 7 ∷ row (pair 10 2) 0x10 13
    ∷ row (pair 11 1) 0x21 8 ∷ row (pair 11 2) 0x1A 16
    ∷ row (pair 12 1) 0x25 8 ∷ row (pair 12 2) 0x19 16
    ∷ row (pair 13 1) 0x24 8 ∷ row (pair 13 2) 0x18 16
    ∷ row (pair 14 1) 0x5 9 ∷ row (pair 14 2) 0x17 16
    ∷ row (pair 15 1) 0x7 9 ∷ row (pair 15 2) 0x16 16
    ∷ row (pair 16 1) 0xD 10 ∷ row (pair 16 2) 0x15 16
    ∷ row (pair 17 1) 0x1F 12
    ∷ row (pair 18 1) 0x1A 12
    ∷ row (pair 19 1) 0x19 12
    ∷ row (pair 20 1) 0x17 12
    ∷ row (pair 21 1) 0x16 12
    ∷ row (pair 22 1) 0x1F 13
    ∷ row (pair 23 1) 0x1E 13
    ∷ row (pair 24 1) 0x1D 13
    ∷ row (pair 25 1) 0x1C 13
    ∷ row (pair 26 1) 0x1B 13
    ∷ row (pair 27 1) 0x1F 16
    ∷ row (pair 28 1) 0x1E 16
    ∷ row (pair 29 1) 0x1D 16
    ∷ row (pair 30 1) 0x1C 16
    ∷ row (pair 31 1) 0x1B 16 ∷ []

-- Table B.15, DCT coefficients table one
unfoldable pub coefficient_one : List (Row Coefficient)
coefficient_one = row End 0x6 4 ∷ row Escape 0x1 6 ∷ signed pairs_one

abbrev pub coefficient_one_code : Coefficient → List Bool
coefficient_one_code v = code_of same_coefficient coefficient_one v
