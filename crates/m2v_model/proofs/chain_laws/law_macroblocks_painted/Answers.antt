use Rattle.m2v_model.proofs.Painting.{all_more}
use Rattle.m2v_model.proofs.chain_laws.law_macroblocks_painted.Goals as goal

pub returns : goal.returns
returns c d s refs st xs at now = all_more s refs st xs d at now
