use Rattle.m2v_model.proofs.Units.{cuts_of}
use Rattle.m2v_model.proofs.chain_laws.law_cut.Goals as goal

pub returns : goal.returns
returns c = cuts_of
