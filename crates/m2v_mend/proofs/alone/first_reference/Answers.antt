use Rattle.m2v_mend.proofs.Firsts.{reference_none, reference_is}
use Rattle.m2v_mend.proofs.alone.first_reference.Goals as goal

pub returns-in-None : goal.returns-in-None
returns-in-None c = λ kind. reference_none c.args.members.now c.in-None.ensures

pub returns-in_ok-reference_at-in-Some : goal.returns-in_ok-reference_at-in-Some
returns-in_ok-reference_at-in-Some c = reference_is c.args.members.now c.in-Some.first.now _ c.requires c.in-Some.ensures c.in_ok-reference_at-in-Some.ensures
