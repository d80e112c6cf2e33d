-- How many bits pairs of small levels take, by table.
use Rattle.std.specs.Prelude.{ℕ, ◌/◌, ◌%◌, Bool, false, ◌&&◌, List, map, length, ℤ, pos, neg_ℤ, ◌-ℤ◌, int_le, int_lt}
use Rattle.std.specs.List.{range_with_len}
use Rattle.m2v_block.specs.Texts.{pair_text}

-- levels from -16 to 15
abbrev pub is_near : ℤ → Bool
is_near level = int_le (neg_ℤ (pos 16)) level && int_lt level (pos 16)

-- the level at n of a table
abbrev pub near_at : ℕ → ℤ
near_at n = pos (n % 32) -ℤ pos 16

-- at n, how many bits run n / 32 and the level there take, by table B.15 or B.14
unfoldable pub pair_lengths : Bool → List ℕ
pair_lengths one = map (λ n. length (pair_text false one (n / 32) (near_at n))) (range_with_len 0 2048)
