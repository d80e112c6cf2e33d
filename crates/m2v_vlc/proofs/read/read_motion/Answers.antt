use Rattle.std.specs.Prelude.{◌≤ℤ◌, pos}
use Rattle.m2v_vlc.specs.Values.{minus}
use Rattle.m2v_vlc.proofs.Checks.{points_of, entries_table, entries_point, entries_give, entries_range}
use Rattle.m2v_vlc.proofs.Motions.{motion_checked, is_signed, motion_are, signed_range}
use Rattle.m2v_vlc.proofs.read.read_motion.Goals as goal

pub read_row-requires-clause-table : goal.read_row-requires-clause-table
read_row-requires-clause-table c = entries_table motion_checked

pub read_row-requires-clause-points : goal.read_row-requires-clause-points
read_row-requires-clause-points c = entries_point motion_checked c.args.input.now.rest c.at-i.result (points_of motion_checked c.args.input.now.rest c.peek.result c.at-i.result c.peek.ensures.value c.peek.ensures.below c.at-i.ensures)

pub returns-clause-exact : goal.returns-clause-exact
returns-clause-exact c = entries_give motion_checked c.read_row.result c.read_row.new.input.rest c.args.input.now.rest c.read_row.ensures.exact

pub returns-clause-range : goal.returns-clause-range
returns-clause-range c = entries_range motion_checked (λ v. (minus 16 ≤ℤ v) × (v ≤ℤ pos 16)) (is_signed 16) c.read_row.result c.read_row.new.input.rest c.args.input.now.rest motion_are.known (signed_range 16) c.read_row.ensures.exact
