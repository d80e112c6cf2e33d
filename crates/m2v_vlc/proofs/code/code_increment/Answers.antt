use Rattle.std.proofs.Common.{◌∙◌}
use Rattle.m2v_vlc.proofs.Checks.{entries_table, entries_code}
use Rattle.m2v_vlc.proofs.Increments.{increment_checked}
use Rattle.m2v_vlc.proofs.code.code_increment.Goals as goal

pub row_code-requires : goal.row_code-requires
row_code-requires c = entries_table increment_checked

pub returns-clause-spelled : goal.returns-clause-spelled
returns-clause-spelled c = c.row_code.ensures.spelled ∙ entries_code increment_checked c.increment_row.result ∙ c.increment_row.ensures
