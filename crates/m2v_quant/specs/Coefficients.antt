-- The coefficients of a block (clauses 7.3 and 7.4): inverse scan, inverse quantisation, saturation, mismatch control.
use Rattle.std.specs.Prelude.{ℕ, zero, suc, ◌*◌, ◌/◌, ◌%◌, ◌^◌, Bool, cond, ◌&&◌, ◌==◌, nat_eq, List, map, slice_index, slice_index_or, find, unwrap_or, if◌then◌else◌, ℤ, pos, neg_ℤ, ◌+ℤ◌, ◌-ℤ◌, ◌*ℤ◌, unsigned_abs}
use Rattle.std.specs.List.{range_with_len}
use Rattle.std.specs.Int.{int_max, int_min, int_signum}
use Rattle.std.specs.Int.RustNames.{int_div}
use Rattle.m2v_quant.specs.declared.kind.BlockKind.{BlockKind}
use Rattle.m2v_quant.specs.Scans.{scan_order}

-- the position of a raster place in the scan
unfoldable pub position : Bool → ℕ → ℕ
position alternate place = unwrap_or (find (λ i. slice_index (scan_order alternate) i == place) (range_with_len 0 64)) 64

-- the level of a raster place (clause 7.3); levels stand in scan order
abbrev pub level_of : List ℤ → BlockKind → ℕ → ℤ
level_of levels kind place = slice_index_or levels (position kind.alternate place) (pos 0)

-- the DC coefficient of an intra block: its level times 8, 4, 2 or 1 (clause 7.4.1)
unfoldable pub dc_coefficient : ℕ → ℤ → ℤ
dc_coefficient precision level = pos (8 / 2 ^ precision) *ℤ level

-- any other coefficient (clause 7.4.2.3), by the product of matrix value and scale; `int_div` cuts toward zero
unfoldable pub ac_coefficient : Bool → ℕ → ℤ → ℤ
ac_coefficient intra step level = int_div ((pos 2 *ℤ level +ℤ cond intra (pos 0) (int_signum level)) *ℤ pos step) (pos 32)

-- kept within -2048 to 2047 (clause 7.4.3)
unfoldable pub saturated : ℤ → ℤ
saturated z = int_max (int_min z (pos 2047)) (neg_ℤ (pos 2048))

-- the coefficient of a raster place before mismatch control, by its level
unfoldable pub saturated_of : BlockKind → ℕ → ℤ → ℤ
saturated_of kind place level =
    saturated (
    if kind.intra && nat_eq place 0 then dc_coefficient kind.precision level
    else ac_coefficient kind.intra (slice_index kind.matrix place * kind.scale) level)

unfoldable pub saturated_at : List ℤ → BlockKind → ℕ → ℤ
saturated_at levels kind place = saturated_of kind place (level_of levels kind place)

-- the sum g 0 + .. + g (n - 1) of the coefficients of the first n places
unfoldable pub coefficient_sum : ℕ → (ℕ → ℤ) → ℤ
coefficient_sum zero g = pos 0
coefficient_sum (suc n) g = coefficient_sum n g +ℤ g n

abbrev pub is_even : ℤ → Bool
is_even z = nat_eq (unsigned_abs z % 2) 0

-- 1 less where it is odd, 1 more where it is even
unfoldable pub other_parity : ℤ → ℤ
other_parity z = if is_even z then z +ℤ pos 1 else z -ℤ pos 1

-- the coefficient of a raster place: the last one changes its parity where the sum of all is even (clause 7.4.4)
unfoldable pub coefficient_at : List ℤ → BlockKind → ℕ → ℤ
coefficient_at levels kind place =
    if nat_eq place 63 && is_even (coefficient_sum 64 (saturated_at levels kind)) then other_parity (saturated_at levels kind place)
    else saturated_at levels kind place

-- the 64 coefficients in raster order
unfoldable pub coefficients_of : List ℤ → BlockKind → List ℤ
coefficients_of levels kind = map (coefficient_at levels kind) (range_with_len 0 64)
