use Rattle.m2v_choose.proofs.Chosen.{first_of_least}
use Rattle.m2v_choose.proofs.laws.law_first_of_least.Goals as goal

pub returns : goal.returns
returns c = λ d. first_of_least d
