-- Where the pairs stand among the rows of tables B.14 and B.15.
use Rattle.std.specs.Prelude.{ℕ, ◌+◌, ◌*◌, Bool, cond, ◌&&◌, nat_lt, nat_le, ℤ, pos, int_lt, unsigned_abs, slice_index}
use Rattle.m2v_vlc.specs.declared.values.Coefficient.{Coefficient}
use Rattle.m2v_vlc.specs.declared.values.Coefficient.TheVariants.{End, Escape, Pair}
use Rattle.m2v_vlc.specs.declared.code.TheConstants.{RUN_START}

-- how many pairs stand before those of the run
unfoldable pub start : ℕ → ℕ
start run = slice_index RUN_START run

-- the tables have a pair of the run and the size
abbrev pub has_pair : ℕ → ℕ → Bool
has_pair run size = nat_lt run 32 && (nat_lt 0 size && nat_le (start run + size) (start (run + 1)))

-- the row of a pair, behind the end of the block and the escape
abbrev pub pair_place : ℕ → ℤ → ℕ
pair_place run level = cond (has_pair run (unsigned_abs level)) (2 * (start run + unsigned_abs level) + cond (int_lt level (pos 0)) 1 0) 255

abbrev pub coefficient_place : Coefficient → ℕ
coefficient_place End = 0
coefficient_place Escape = 1
coefficient_place (Pair run level) = pair_place run level
