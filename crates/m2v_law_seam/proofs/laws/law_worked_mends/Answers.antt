use Rattle.m2v_law_seam.proofs.Worked.{worked_mends}
use Rattle.m2v_law_seam.proofs.laws.law_worked_mends.Goals as goal

pub returns : goal.returns
returns c = worked_mends
