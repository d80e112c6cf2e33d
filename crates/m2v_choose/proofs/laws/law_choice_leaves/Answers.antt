use Rattle.m2v_choose.proofs.Kept.{choice_leaves}
use Rattle.m2v_choose.proofs.laws.law_choice_leaves.Goals as goal

pub returns : goal.returns
returns c = λ d own limits. choice_leaves d own limits
