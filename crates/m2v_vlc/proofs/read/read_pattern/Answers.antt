use Rattle.std.specs.Prelude.{◌<◌}
use Rattle.m2v_vlc.proofs.Checks.{points_of, entries_table, entries_point, entries_give, entries_range}
use Rattle.m2v_vlc.proofs.Patterns.{pattern_checked, is_pattern, pattern_known, pattern_range}
use Rattle.m2v_vlc.proofs.read.read_pattern.Goals as goal

pub read_row-requires-clause-table : goal.read_row-requires-clause-table
read_row-requires-clause-table c = entries_table pattern_checked

pub read_row-requires-clause-points : goal.read_row-requires-clause-points
read_row-requires-clause-points c = entries_point pattern_checked c.args.input.now.rest c.at-i.result (points_of pattern_checked c.args.input.now.rest c.peek.result c.at-i.result c.peek.ensures.value c.peek.ensures.below c.at-i.ensures)

pub returns-clause-exact : goal.returns-clause-exact
returns-clause-exact c = entries_give pattern_checked c.read_row.result c.read_row.new.input.rest c.args.input.now.rest c.read_row.ensures.exact

pub returns-clause-pattern : goal.returns-clause-pattern
returns-clause-pattern c = entries_range pattern_checked (λ v. (0 < v) × (v < 64)) is_pattern c.read_row.result c.read_row.new.input.rest c.args.input.now.rest pattern_known pattern_range c.read_row.ensures.exact
