use Rattle.m2v_law_group.proofs.Lawful.{lawful_law}
use Rattle.m2v_law_group.proofs.laws.law_lawful_cut.Goals as goal

pub returns : goal.returns
returns c = lawful_law
