use Rattle.std.specs.Prelude.{◌≤ℤ◌, pos}
use Rattle.m2v_vlc.specs.Values.{minus}
use Rattle.m2v_vlc.proofs.Checks.{points_of, entries_table, entries_point, entries_give, entries_range}
use Rattle.m2v_vlc.proofs.Motions.{dmv_checked, is_signed, dmv_are, signed_range}
use Rattle.m2v_vlc.proofs.read.read_dmv.Goals as goal

pub read_row-requires-clause-table : goal.read_row-requires-clause-table
read_row-requires-clause-table c = entries_table dmv_checked

pub read_row-requires-clause-points : goal.read_row-requires-clause-points
read_row-requires-clause-points c = entries_point dmv_checked c.args.input.now.rest c.at-i.result (points_of dmv_checked c.args.input.now.rest c.peek.result c.at-i.result c.peek.ensures.value c.peek.ensures.below c.at-i.ensures)

pub returns-clause-exact : goal.returns-clause-exact
returns-clause-exact c = entries_give dmv_checked c.read_row.result c.read_row.new.input.rest c.args.input.now.rest c.read_row.ensures.exact

pub returns-clause-range : goal.returns-clause-range
returns-clause-range c = entries_range dmv_checked (λ v. (minus 1 ≤ℤ v) × (v ≤ℤ pos 1)) (is_signed 1) c.read_row.result c.read_row.new.input.rest c.args.input.now.rest dmv_are.known (signed_range 1) c.read_row.ensures.exact
