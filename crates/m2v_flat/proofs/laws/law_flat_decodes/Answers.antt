use Rattle.m2v_flat.proofs.Streams.{flat_decodes}
use Rattle.m2v_flat.proofs.laws.law_flat_decodes.Goals as goal

pub returns : goal.returns
returns c = flat_decodes
