use Rattle.m2v_vlc.specs.Coefficients.{IsCoefficient}
use Rattle.m2v_vlc.proofs.Checks.{entries_table, entries_point, entries_give, entries_range}
use Rattle.m2v_vlc.proofs.Places.{is_small, small_range}
use Rattle.m2v_vlc.proofs.Coefficients.{one_pointed}
use Rattle.m2v_vlc.proofs.read.read_coefficient_one.Goals as goal

pub read_row-requires-clause-table : goal.read_row-requires-clause-table
read_row-requires-clause-table c = entries_table one_pointed.checked

pub read_row-requires-clause-points : goal.read_row-requires-clause-points
read_row-requires-clause-points c = entries_point one_pointed.checked c.args.input.now.rest c.one_at-i.result c.one_at-i.ensures

pub returns-clause-exact : goal.returns-clause-exact
returns-clause-exact c = entries_give one_pointed.checked c.read_row.result c.read_row.new.input.rest c.args.input.now.rest c.read_row.ensures.exact

pub returns-clause-range : goal.returns-clause-range
returns-clause-range c = entries_range one_pointed.checked IsCoefficient is_small c.read_row.result c.read_row.new.input.rest c.args.input.now.rest one_pointed.known small_range c.read_row.ensures.exact
