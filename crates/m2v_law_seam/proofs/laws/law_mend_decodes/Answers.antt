use Rattle.m2v_law_seam.proofs.Fold.{mend_decodes}
use Rattle.m2v_law_seam.proofs.laws.law_mend_decodes.Goals as goal

pub returns : goal.returns
returns c = mend_decodes
