use Rattle.m2v_choose.proofs.InsideLaws.{choice_inside}
use Rattle.m2v_choose.proofs.laws.law_choice_inside.Goals as goal

pub returns : goal.returns
returns c = λ d own limits read. choice_inside d own limits read
