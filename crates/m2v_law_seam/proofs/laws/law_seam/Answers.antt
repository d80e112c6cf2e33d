use Rattle.m2v_law_seam.proofs.Joint.{seam_law}
use Rattle.m2v_law_seam.proofs.laws.law_seam.Goals as goal

pub returns : goal.returns
returns c = seam_law
