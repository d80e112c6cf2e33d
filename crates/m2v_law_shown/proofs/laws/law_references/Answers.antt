use Rattle.m2v_law_shown.proofs.References.{references_are}
use Rattle.m2v_law_shown.proofs.laws.law_references.Goals as goal

pub returns : goal.returns
returns c = λ b older p r store h lt holds. references_are b h older p r store lt holds
