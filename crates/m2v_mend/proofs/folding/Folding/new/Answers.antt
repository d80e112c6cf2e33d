use Rattle.std.proofs.Common.{refl}
use Rattle.m2v_mend.proofs.FoldLaws.{folded_new}
use Rattle.m2v_mend.proofs.folding.Folding.new.Goals as goal

pub returns-clause-folded : goal.returns-clause-folded
returns-clause-folded c place = folded_new place _ c.new.ensures.made c.new-2.ensures refl refl refl refl
