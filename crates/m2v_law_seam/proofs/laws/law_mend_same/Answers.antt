use Rattle.m2v_law_seam.proofs.Whole.{mend_same, mend_same_steps}
use Rattle.m2v_law_seam.proofs.laws.law_mend_same.Goals as goal

pub returns : goal.returns
returns c = λ text. (mend_same text, mend_same_steps text)
