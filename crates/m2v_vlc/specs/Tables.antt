-- The code tables of Annex B but for those of coefficients.
use Rattle.std.specs.Prelude.{ℕ, Bool, List, [], ◌∷◌, ℤ, pos}
use Rattle.m2v_vlc.specs.declared.values.Increment.{Increment}
use Rattle.m2v_vlc.specs.declared.values.Increment.TheVariants.{Step, Escape}
use Rattle.m2v_vlc.specs.declared.values.MbType.{MbType}
use Rattle.m2v_vlc.specs.Codes.{Row, row, code_of}
use Rattle.m2v_vlc.specs.Values.{same_number, same_increment, same_type, same_signed, kind, minus}

-- Table B.1, the increment of a macroblock's address
unfoldable pub increment : List (Row Increment)
increment =
    row (Step 1) 0x1 1 ∷ row (Step 2) 0x3 3 ∷ row (Step 3) 0x2 3 ∷ row (Step 4) 0x3 4 ∷ row (Step 5) 0x2 4 ∷ row (Step 6) 0x3 5 ∷ row (Step 7) 0x2 5
    ∷ row (Step 8) 0x7 7 ∷ row (Step 9) 0x6 7
    ∷ row (Step 10) 0xB 8 ∷ row (Step 11) 0xA 8 ∷ row (Step 12) 0x9 8 ∷ row (Step 13) 0x8 8 ∷ row (Step 14) 0x7 8 ∷ row (Step 15) 0x6 8
    ∷ row (Step 16) 0x17 10 ∷ row (Step 17) 0x16 10 ∷ row (Step 18) 0x15 10 ∷ row (Step 19) 0x14 10 ∷ row (Step 20) 0x13 10 ∷ row (Step 21) 0x12 10
    ∷ row (Step 22) 0x23 11 ∷ row (Step 23) 0x22 11 ∷ row (Step 24) 0x21 11 ∷ row (Step 25) 0x20 11 ∷ row (Step 26) 0x1F 11 ∷ row (Step 27) 0x1E 11
    ∷ row (Step 28) 0x1D 11 ∷ row (Step 29) 0x1C 11 ∷ row (Step 30) 0x1B 11 ∷ row (Step 31) 0x1A 11 ∷ row (Step 32) 0x19 11 ∷ row (Step 33) 0x18 11
    ∷ row Escape 0x8 11 ∷ []

abbrev pub increment_code : Increment → List Bool
increment_code v = code_of same_increment increment v

-- Table B.2, macroblock types in I pictures
unfoldable pub type_i : List (Row MbType)
type_i = row (kind 0 0 0 0 1) 0x1 1 ∷ row (kind 1 0 0 0 1) 0x1 2 ∷ []

abbrev pub type_i_code : MbType → List Bool
type_i_code v = code_of same_type type_i v

-- Table B.3, macroblock types in P pictures
unfoldable pub type_p : List (Row MbType)
type_p =
    row (kind 0 1 0 1 0) 0x1 1
    ∷ row (kind 0 0 0 1 0) 0x1 2
    ∷ row (kind 0 1 0 0 0) 0x1 3
    ∷ row (kind 0 0 0 0 1) 0x3 5
    ∷ row (kind 1 1 0 1 0) 0x2 5
    ∷ row (kind 1 0 0 1 0) 0x1 5
    ∷ row (kind 1 0 0 0 1) 0x1 6 ∷ []

abbrev pub type_p_code : MbType → List Bool
type_p_code v = code_of same_type type_p v

-- Table B.4, macroblock types in B pictures
unfoldable pub type_b : List (Row MbType)
type_b =
    row (kind 0 1 1 0 0) 0x2 2
    ∷ row (kind 0 1 1 1 0) 0x3 2
    ∷ row (kind 0 0 1 0 0) 0x2 3
    ∷ row (kind 0 0 1 1 0) 0x3 3
    ∷ row (kind 0 1 0 0 0) 0x2 4
    ∷ row (kind 0 1 0 1 0) 0x3 4
    ∷ row (kind 0 0 0 0 1) 0x3 5
    ∷ row (kind 1 1 1 1 0) 0x2 5
    ∷ row (kind 1 1 0 1 0) 0x3 6
    ∷ row (kind 1 0 1 1 0) 0x2 6
    ∷ row (kind 1 0 0 0 1) 0x1 6 ∷ []

abbrev pub type_b_code : MbType → List Bool
type_b_code v = code_of same_type type_b v

-- Table B.9, the coded block pattern, but for 0, which stands in 4:2:2 and 4:4:4 alone
unfoldable pub block_pattern : List (Row ℕ)
block_pattern =
    row 1 0xB 5 ∷ row 2 0x9 5 ∷ row 3 0xD 6 ∷ row 4 0xD 4 ∷ row 5 0x17 7 ∷ row 6 0x13 7 ∷ row 7 0x1F 8 ∷ row 8 0xC 4
    ∷ row 9 0x16 7 ∷ row 10 0x12 7 ∷ row 11 0x1E 8 ∷ row 12 0x13 5 ∷ row 13 0x1B 8 ∷ row 14 0x17 8 ∷ row 15 0x13 8 ∷ row 16 0xB 4
    ∷ row 17 0x15 7 ∷ row 18 0x11 7 ∷ row 19 0x1D 8 ∷ row 20 0x11 5 ∷ row 21 0x19 8 ∷ row 22 0x15 8 ∷ row 23 0x11 8 ∷ row 24 0xF 6
    ∷ row 25 0xF 8 ∷ row 26 0xD 8 ∷ row 27 0x3 9 ∷ row 28 0xF 5 ∷ row 29 0xB 8 ∷ row 30 0x7 8 ∷ row 31 0x7 9 ∷ row 32 0xA 4
    ∷ row 33 0x14 7 ∷ row 34 0x10 7 ∷ row 35 0x1C 8 ∷ row 36 0xE 6 ∷ row 37 0xE 8 ∷ row 38 0xC 8 ∷ row 39 0x2 9 ∷ row 40 0x10 5
    ∷ row 41 0x18 8 ∷ row 42 0x14 8 ∷ row 43 0x10 8 ∷ row 44 0xE 5 ∷ row 45 0xA 8 ∷ row 46 0x6 8 ∷ row 47 0x6 9 ∷ row 48 0x12 5
    ∷ row 49 0x1A 8 ∷ row 50 0x16 8 ∷ row 51 0x12 8 ∷ row 52 0xD 5 ∷ row 53 0x9 8 ∷ row 54 0x5 8 ∷ row 55 0x5 9 ∷ row 56 0xC 5
    ∷ row 57 0x8 8 ∷ row 58 0x4 8 ∷ row 59 0x4 9 ∷ row 60 0x7 3 ∷ row 61 0xA 5 ∷ row 62 0x8 5 ∷ row 63 0xC 6 ∷ []

abbrev pub pattern_code : ℕ → List Bool
pattern_code v = code_of same_number block_pattern v

-- Table B.10, the motion code
unfoldable pub motion : List (Row ℤ)
motion =
    row (minus 16) 0x19 11 ∷ row (minus 15) 0x1B 11 ∷ row (minus 14) 0x1D 11 ∷ row (minus 13) 0x1F 11 ∷ row (minus 12) 0x21 11 ∷ row (minus 11) 0x23 11
    ∷ row (minus 10) 0x13 10 ∷ row (minus 9) 0x15 10 ∷ row (minus 8) 0x17 10 ∷ row (minus 7) 0x7 8 ∷ row (minus 6) 0x9 8 ∷ row (minus 5) 0xB 8
    ∷ row (minus 4) 0x7 7 ∷ row (minus 3) 0x3 5 ∷ row (minus 2) 0x3 4 ∷ row (minus 1) 0x3 3 ∷ row (pos 0) 0x1 1 ∷ row (pos 1) 0x2 3
    ∷ row (pos 2) 0x2 4 ∷ row (pos 3) 0x2 5 ∷ row (pos 4) 0x6 7 ∷ row (pos 5) 0xA 8 ∷ row (pos 6) 0x8 8 ∷ row (pos 7) 0x6 8
    ∷ row (pos 8) 0x16 10 ∷ row (pos 9) 0x14 10 ∷ row (pos 10) 0x12 10 ∷ row (pos 11) 0x22 11 ∷ row (pos 12) 0x20 11 ∷ row (pos 13) 0x1E 11
    ∷ row (pos 14) 0x1C 11 ∷ row (pos 15) 0x1A 11 ∷ row (pos 16) 0x18 11 ∷ []

abbrev pub motion_code : ℤ → List Bool
motion_code v = code_of same_signed motion v

-- Table B.11, the dmvector
unfoldable pub dmv : List (Row ℤ)
dmv = row (minus 1) 0x3 2 ∷ row (pos 0) 0x0 1 ∷ row (pos 1) 0x2 2 ∷ []

abbrev pub dmv_code : ℤ → List Bool
dmv_code v = code_of same_signed dmv v

-- Table B.12, the size of a luma DC difference
unfoldable pub dc_luma : List (Row ℕ)
dc_luma =
    row 0 0x4 3 ∷ row 1 0x0 2 ∷ row 2 0x1 2 ∷ row 3 0x5 3 ∷ row 4 0x6 3 ∷ row 5 0xE 4 ∷ row 6 0x1E 5 ∷ row 7 0x3E 6 ∷ row 8 0x7E 7 ∷ row 9 0xFE 8
    ∷ row 10 0x1FE 9 ∷ row 11 0x1FF 9 ∷ []

abbrev pub dc_luma_code : ℕ → List Bool
dc_luma_code v = code_of same_number dc_luma v

-- Table B.13, the size of a chroma DC difference
unfoldable pub dc_chroma : List (Row ℕ)
dc_chroma =
    row 0 0x0 2 ∷ row 1 0x1 2 ∷ row 2 0x2 2 ∷ row 3 0x6 3 ∷ row 4 0xE 4 ∷ row 5 0x1E 5 ∷ row 6 0x3E 6 ∷ row 7 0x7E 7 ∷ row 8 0xFE 8 ∷ row 9 0x1FE 9
    ∷ row 10 0x3FE 10 ∷ row 11 0x3FF 10 ∷ []

abbrev pub dc_chroma_code : ℕ → List Bool
dc_chroma_code v = code_of same_number dc_chroma v
