use Rattle.m2v_law_group.proofs.Lifted.{second_decodes}
use Rattle.m2v_law_group.proofs.laws.law_second_group.Goals as goal

pub returns : goal.returns
returns c = second_decodes
