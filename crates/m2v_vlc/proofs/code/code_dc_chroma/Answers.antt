use Rattle.std.proofs.Common.{◌∙◌}
use Rattle.m2v_vlc.proofs.Checks.{entries_table, entries_code}
use Rattle.m2v_vlc.proofs.Sizes.{dc_chroma_checked, dc_chroma_are, size_index}
use Rattle.m2v_vlc.proofs.code.code_dc_chroma.Goals as goal

pub row_code-requires : goal.row_code-requires
row_code-requires c = entries_table dc_chroma_checked

pub returns-clause-spelled : goal.returns-clause-spelled
returns-clause-spelled c = c.row_code.ensures.spelled ∙ entries_code dc_chroma_checked c.args.size ∙ size_index dc_chroma_are c.args.size
