use Rattle.m2v_law_seam.proofs.Twice.{mend_twice, mend_twice_steps}
use Rattle.m2v_law_seam.proofs.laws.law_mend_twice.Goals as goal

pub returns : goal.returns
returns c = λ text. (mend_twice text, mend_twice_steps text)
