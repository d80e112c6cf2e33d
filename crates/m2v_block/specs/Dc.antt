-- The DC difference of an intra block (clause 7.2.1; Annex B, tables B.12 and B.13).
use Rattle.std.specs.Prelude.{ℕ, ◌-◌, ◌^◌, Bool, true, false, List, ℤ, pos, negsuc, unsigned_abs, unwrap_or, find, ◌/◌, ◌==◌}
use Rattle.std.specs.List.{range_with_len}
use Rattle.m2v_bits.specs.Bits.{bits_of, ◌⧺◌}
use Rattle.m2v_vlc.specs.Tables.{dc_luma_code, dc_chroma_code}

-- the size of a magnitude up to 2047: the least s for which nothing is left of it above its s lowest bits
unfoldable pub size_of : ℕ → ℕ
size_of magnitude = unwrap_or (find (λ s. magnitude / 2 ^ s == 0) (range_with_len 0 12)) 12

-- the number of a difference of a size: itself, or where it is negative itself plus 2 ^ size - 1
unfoldable pub number_of : ℕ → ℤ → ℕ
number_of size (pos n) = n
number_of size (negsuc n) = 2 ^ size - 1 - unsigned_abs (negsuc n)

-- the code of a size
unfoldable pub size_code : Bool → ℕ → List Bool
size_code true size = dc_luma_code size
size_code false size = dc_chroma_code size

-- the code of the size, and the number in so many bits
unfoldable pub dc_text : Bool → ℤ → List Bool
dc_text luma difference =
    size_code luma (size_of (unsigned_abs difference))
    ⧺ bits_of (size_of (unsigned_abs difference)) (number_of (size_of (unsigned_abs difference)) difference)
