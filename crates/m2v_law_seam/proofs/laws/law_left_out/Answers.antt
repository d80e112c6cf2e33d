use Rattle.m2v_law_seam.proofs.Left.{left_told}
use Rattle.m2v_law_seam.proofs.laws.law_left_out.Goals as goal

pub returns : goal.returns
returns c = left_told
