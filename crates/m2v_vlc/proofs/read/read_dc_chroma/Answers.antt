use Rattle.std.specs.Prelude.{◌<◌}
use Rattle.m2v_vlc.proofs.Checks.{points_of, entries_table, entries_point, entries_give, entries_range}
use Rattle.m2v_vlc.proofs.Sizes.{dc_chroma_checked, is_size, dc_chroma_are, size_below}
use Rattle.m2v_vlc.proofs.read.read_dc_chroma.Goals as goal

pub read_row-requires-clause-table : goal.read_row-requires-clause-table
read_row-requires-clause-table c = entries_table dc_chroma_checked

pub read_row-requires-clause-points : goal.read_row-requires-clause-points
read_row-requires-clause-points c = entries_point dc_chroma_checked c.args.input.now.rest c.at-i.result (points_of dc_chroma_checked c.args.input.now.rest c.peek.result c.at-i.result c.peek.ensures.value c.peek.ensures.below c.at-i.ensures)

pub returns-clause-exact : goal.returns-clause-exact
returns-clause-exact c = entries_give dc_chroma_checked c.read_row.result c.read_row.new.input.rest c.args.input.now.rest c.read_row.ensures.exact

pub returns-clause-size : goal.returns-clause-size
returns-clause-size c = entries_range dc_chroma_checked (λ v. v < 12) is_size c.read_row.result c.read_row.new.input.rest c.args.input.now.rest dc_chroma_are.known size_below c.read_row.ensures.exact
