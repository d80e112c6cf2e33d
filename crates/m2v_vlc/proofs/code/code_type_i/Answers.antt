use Rattle.std.proofs.Common.{◌∙◌}
use Rattle.m2v_vlc.proofs.Checks.{entries_table, entries_code}
use Rattle.m2v_vlc.proofs.MbTypes.{type_i_checked, type_i_are, type_index}
use Rattle.m2v_vlc.proofs.code.code_type_i.Goals as goal

pub row_code-requires : goal.row_code-requires
row_code-requires c = entries_table type_i_checked

pub returns-clause-spelled : goal.returns-clause-spelled
returns-clause-spelled c = c.row_code.ensures.spelled ∙ entries_code type_i_checked c.at.result ∙ type_index type_i_are c.args.value c.flags_of.result c.at.result c.flags_of.ensures.value c.at.ensures
