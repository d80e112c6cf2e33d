use Rattle.std.proofs.Common.{◌∙◌, ap}
use Rattle.m2v_vlc.specs.Lookups.{code_in}
use Rattle.m2v_vlc.specs.Coefficients.{coefficient_zero}
use Rattle.m2v_vlc.proofs.Checks.{entries_table, entries_code}
use Rattle.m2v_vlc.proofs.Coefficients.{zero_pointed, zero_index}
use Rattle.m2v_vlc.proofs.code.code_coefficient_zero.Goals as goal

pub row_code-requires : goal.row_code-requires
row_code-requires c = entries_table zero_pointed.checked

pub returns-clause-spelled : goal.returns-clause-spelled
returns-clause-spelled c = c.row_code.ensures.spelled ∙ entries_code zero_pointed.checked c.coefficient_row.result ∙ ap (code_in coefficient_zero) c.coefficient_row.ensures ∙ zero_index c.args.value
