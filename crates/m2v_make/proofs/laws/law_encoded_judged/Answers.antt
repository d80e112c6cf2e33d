use Rattle.m2v_make.proofs.Judged.{judged}
use Rattle.m2v_make.proofs.laws.law_encoded_judged.Goals as goal

pub returns : goal.returns
returns c = judged
