use Rattle.m2v_law_shown.proofs.Decodes.{decodes_to}
use Rattle.m2v_law_shown.proofs.laws.law_encoded_decodes.Goals as goal

pub returns : goal.returns
returns c = decodes_to
