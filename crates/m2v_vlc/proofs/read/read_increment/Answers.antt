use Rattle.m2v_vlc.specs.Values.{IsIncrement}
use Rattle.m2v_vlc.proofs.Checks.{points_of, entries_table, entries_point, entries_give, entries_range}
use Rattle.m2v_vlc.proofs.Increments.{increment_checked, known, increment_known, is_known}
use Rattle.m2v_vlc.proofs.read.read_increment.Goals as goal

pub read_row-requires-clause-table : goal.read_row-requires-clause-table
read_row-requires-clause-table c = entries_table increment_checked

pub read_row-requires-clause-points : goal.read_row-requires-clause-points
read_row-requires-clause-points c = entries_point increment_checked c.args.input.now.rest c.at-i.result (points_of increment_checked c.args.input.now.rest c.peek.result c.at-i.result c.peek.ensures.value c.peek.ensures.below c.at-i.ensures)

pub returns-clause-exact : goal.returns-clause-exact
returns-clause-exact c = entries_give increment_checked c.read_row.result c.read_row.new.input.rest c.args.input.now.rest c.read_row.ensures.exact

pub returns-clause-range : goal.returns-clause-range
returns-clause-range c = entries_range increment_checked IsIncrement known c.read_row.result c.read_row.new.input.rest c.args.input.now.rest increment_known is_known c.read_row.ensures.exact
