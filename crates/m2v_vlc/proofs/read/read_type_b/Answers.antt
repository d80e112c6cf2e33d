use Rattle.m2v_vlc.proofs.Checks.{points_of, entries_table, entries_point, entries_give}
use Rattle.m2v_vlc.proofs.MbTypes.{type_b_checked}
use Rattle.m2v_vlc.proofs.read.read_type_b.Goals as goal

pub read_row-requires-clause-table : goal.read_row-requires-clause-table
read_row-requires-clause-table c = entries_table type_b_checked

pub read_row-requires-clause-points : goal.read_row-requires-clause-points
read_row-requires-clause-points c = entries_point type_b_checked c.args.input.now.rest c.at-i.result (points_of type_b_checked c.args.input.now.rest c.peek.result c.at-i.result c.peek.ensures.value c.peek.ensures.below c.at-i.ensures)

pub returns-clause-exact : goal.returns-clause-exact
returns-clause-exact c = entries_give type_b_checked c.read_row.result c.read_row.new.input.rest c.args.input.now.rest c.read_row.ensures.exact
