use Rattle.m2v_law_shown.proofs.Lawful.{encoded_lawful}
use Rattle.m2v_law_shown.proofs.laws.law_encoded_lawful.Goals as goal

pub returns : goal.returns
returns c = encoded_lawful
