-- The encoder's quantiser. The standard leaves it free; this is the project's own choice.
use Rattle.std.specs.Prelude.{ℕ, ◌+◌, ◌*◌, ◌/◌, Bool, cond, ◌&&◌, nat_eq, min, List, map, slice_index, slice_index_or, if◌then◌else◌, ℤ, pos, negsuc, neg_ℤ, ◌+ℤ◌, unsigned_abs}
use Rattle.std.specs.List.{range_with_len, list_all}
use Rattle.std.specs.Int.{int_shr, int_max, int_min}
use Rattle.m2v_quant.specs.declared.kind.BlockKind.{BlockKind}
use Rattle.m2v_quant.specs.Scans.{scan_order}

-- the level of an intra DC coefficient at 8 bits: an eighth, to the nearest, kept within 0 to 255
unfoldable pub dc_level : ℤ → ℤ
dc_level f = int_max (int_min (int_shr (f +ℤ pos 4) 3) (pos 255)) (pos 0)

-- a number of this size and the sign of z
unfoldable pub with_sign : ℤ → ℕ → ℤ
with_sign (pos _) size = pos size
with_sign (negsuc _) size = neg_ℤ (pos size)

-- the level of any other coefficient: sixteen times its size over the product of matrix value and scale, to the nearest
-- in an intra block, else cut down, at most 2047, with its sign
unfoldable pub ac_level : Bool → ℕ → ℤ → ℤ
ac_level intra step f = with_sign f (min ((16 * unsigned_abs f + cond intra (step / 2) 0) / step) 2047)

-- the level of a position of the scan
unfoldable pub level_at : List ℤ → BlockKind → ℕ → ℤ
level_at f kind i =
    if kind.intra && nat_eq i 0 then dc_level (slice_index_or f 0 (pos 0))
    else ac_level kind.intra (slice_index kind.matrix (slice_index (scan_order kind.alternate) i) * kind.scale)
    (slice_index_or f (slice_index (scan_order kind.alternate) i) (pos 0))

-- the 64 levels in scan order
unfoldable pub levels_of : List ℤ → BlockKind → List ℤ
levels_of f kind = map (level_at f kind) (range_with_len 0 64)

-- a block has no level but 0
abbrev pub is_empty : List ℤ → Bool
is_empty levels = list_all (λ level. nat_eq (unsigned_abs level) 0) levels
