use Rattle.m2v_model.proofs.Painting.{part_all}
use Rattle.m2v_model.proofs.chain_laws.law_painted.Goals as goal

pub returns : goal.returns
returns c = part_all
