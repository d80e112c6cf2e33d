use Rattle.std.proofs.Common.{◌∙◌}
use Rattle.m2v_vlc.proofs.Checks.{entries_table, entries_code}
use Rattle.m2v_vlc.proofs.Patterns.{pattern_checked}
use Rattle.m2v_vlc.proofs.code.code_pattern.Goals as goal

pub row_code-requires : goal.row_code-requires
row_code-requires c = entries_table pattern_checked

pub returns-clause-spelled : goal.returns-clause-spelled
returns-clause-spelled c = c.row_code.ensures.spelled ∙ entries_code pattern_checked c.pattern_row.result ∙ c.pattern_row.ensures
