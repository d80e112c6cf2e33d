use Rattle.m2v_model.proofs.Painting.{fields_all}
use Rattle.m2v_model.proofs.chain_laws.law_fields_painted.Goals as goal

pub returns : goal.returns
returns c = fields_all
