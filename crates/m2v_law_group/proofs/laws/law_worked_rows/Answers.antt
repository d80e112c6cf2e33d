use Rattle.m2v_law_group.proofs.Worked.{worked_rows}
use Rattle.m2v_law_group.proofs.laws.law_worked_rows.Goals as goal

pub returns : goal.returns
returns c = worked_rows
