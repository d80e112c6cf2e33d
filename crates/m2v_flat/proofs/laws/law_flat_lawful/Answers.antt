use Rattle.m2v_flat.proofs.LawfulStreams.{flat_lawful}
use Rattle.m2v_flat.proofs.laws.law_flat_lawful.Goals as goal

pub returns : goal.returns
returns c = flat_lawful
