use Rattle.m2v_model.proofs.Chains.{rounds_of}
use Rattle.m2v_model.proofs.chain_laws.law_chained.Goals as goal

pub returns : goal.returns
returns c a b ps us chain = rounds_of chain
