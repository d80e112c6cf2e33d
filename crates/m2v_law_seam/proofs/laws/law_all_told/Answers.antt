use Rattle.m2v_law_seam.proofs.Told.{all_told}
use Rattle.m2v_law_seam.proofs.laws.law_all_told.Goals as goal

pub returns : goal.returns
returns c = all_told
