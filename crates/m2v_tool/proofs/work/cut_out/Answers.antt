use Rattle.std.proofs.Common.{refl, arith}
use Rattle.m2v_tool.specs.Cutting.{CutComes}
use Rattle.m2v_tool.proofs.work.cut_out.Goals as goal

pub returns-then-meant-eq0-clause-comes : goal.returns-then-meant-eq0-clause-comes
unfolding CutComes
returns-then-meant-eq0-clause-comes g c = (omega arith, refl, refl)

pub returns-in-Ok-clause-comes : goal.returns-in-Ok-clause-comes
unfolding CutComes
returns-in-Ok-clause-comes g c = (omega arith, c.in-Ok.ensures.ok)

pub returns-in-Err-clause-comes : goal.returns-in-Err-clause-comes
unfolding CutComes
returns-in-Err-clause-comes g c = (omega arith, c.in-Err.ensures.err)
