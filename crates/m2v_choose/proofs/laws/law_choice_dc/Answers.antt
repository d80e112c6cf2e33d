use Rattle.m2v_choose.proofs.DcKept.{choice_dc, start_dc}
use Rattle.m2v_choose.proofs.laws.law_choice_dc.Goals as goal

pub returns : goal.returns
returns c = record { start = λ context row q next own. start_dc context row q next own.precision; choice = λ d own dc. choice_dc d own.precision dc }
