-- The scans and the quantiser scales (clauses 7.3 and 7.4.2.2).
use Rattle.std.specs.Prelude.{ℕ, ◌*◌, ◌-◌, Bool, true, false, List, [], ◌∷◌, slice_index}

-- Figure 7-2, the zigzag scan: the raster places, 8 times the row plus the column, in scan order
unfoldable pub zigzag : List ℕ
zigzag =
    0 ∷ 1 ∷ 8 ∷ 16 ∷ 9 ∷ 2 ∷ 3 ∷ 10 ∷
    17 ∷ 24 ∷ 32 ∷ 25 ∷ 18 ∷ 11 ∷ 4 ∷ 5 ∷
    12 ∷ 19 ∷ 26 ∷ 33 ∷ 40 ∷ 48 ∷ 41 ∷ 34 ∷
    27 ∷ 20 ∷ 13 ∷ 6 ∷ 7 ∷ 14 ∷ 21 ∷ 28 ∷
    35 ∷ 42 ∷ 49 ∷ 56 ∷ 57 ∷ 50 ∷ 43 ∷ 36 ∷
    29 ∷ 22 ∷ 15 ∷ 23 ∷ 30 ∷ 37 ∷ 44 ∷ 51 ∷
    58 ∷ 59 ∷ 52 ∷ 45 ∷ 38 ∷ 31 ∷ 39 ∷ 46 ∷
    53 ∷ 60 ∷ 61 ∷ 54 ∷ 47 ∷ 55 ∷ 62 ∷ 63 ∷ []

-- Figure 7-3, the alternate scan
unfoldable pub alternate : List ℕ
alternate =
    0 ∷ 8 ∷ 16 ∷ 24 ∷ 1 ∷ 9 ∷ 2 ∷ 10 ∷
    17 ∷ 25 ∷ 32 ∷ 40 ∷ 48 ∷ 56 ∷ 57 ∷ 49 ∷
    41 ∷ 33 ∷ 26 ∷ 18 ∷ 3 ∷ 11 ∷ 4 ∷ 12 ∷
    19 ∷ 27 ∷ 34 ∷ 42 ∷ 50 ∷ 58 ∷ 35 ∷ 43 ∷
    51 ∷ 59 ∷ 20 ∷ 28 ∷ 5 ∷ 13 ∷ 6 ∷ 14 ∷
    21 ∷ 29 ∷ 36 ∷ 44 ∷ 52 ∷ 60 ∷ 37 ∷ 45 ∷
    53 ∷ 61 ∷ 22 ∷ 30 ∷ 7 ∷ 15 ∷ 23 ∷ 31 ∷
    38 ∷ 46 ∷ 54 ∷ 62 ∷ 39 ∷ 47 ∷ 55 ∷ 63 ∷ []

-- the scan that alternate_scan names
unfoldable pub scan_order : Bool → List ℕ
scan_order false = zigzag
scan_order true = alternate

-- Table 7-6, the scales of the codes 1 to 31 with q_scale_type 1
unfoldable pub nonlinear_scales : List ℕ
nonlinear_scales =
    1 ∷ 2 ∷ 3 ∷ 4 ∷ 5 ∷ 6 ∷ 7 ∷ 8 ∷
    10 ∷ 12 ∷ 14 ∷ 16 ∷ 18 ∷ 20 ∷ 22 ∷ 24 ∷
    28 ∷ 32 ∷ 36 ∷ 40 ∷ 44 ∷ 48 ∷ 52 ∷ 56 ∷
    64 ∷ 72 ∷ 80 ∷ 88 ∷ 96 ∷ 104 ∷ 112 ∷ []

-- the scale of a code from 1 to 31
unfoldable pub scale_at : Bool → ℕ → ℕ
scale_at false code = 2 * code
scale_at true code = slice_index nonlinear_scales (code - 1)
