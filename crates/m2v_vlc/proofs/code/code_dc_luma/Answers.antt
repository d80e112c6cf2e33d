use Rattle.std.proofs.Common.{◌∙◌}
use Rattle.m2v_vlc.proofs.Checks.{entries_table, entries_code}
use Rattle.m2v_vlc.proofs.Sizes.{dc_luma_checked, dc_luma_are, size_index}
use Rattle.m2v_vlc.proofs.code.code_dc_luma.Goals as goal

pub row_code-requires : goal.row_code-requires
row_code-requires c = entries_table dc_luma_checked

pub returns-clause-spelled : goal.returns-clause-spelled
returns-clause-spelled c = c.row_code.ensures.spelled ∙ entries_code dc_luma_checked c.args.size ∙ size_index dc_luma_are c.args.size
