use Rattle.m2v_law_group.proofs.Decodes.{cut_law}
use Rattle.m2v_law_group.proofs.laws.law_cut_decodes.Goals as goal

pub returns : goal.returns
returns c = cut_law
