use Rattle.m2v_tool.specs.Checking.{CheckComes}
use Rattle.m2v_tool.proofs.work.judged.Goals as goal

pub returns-in-Ok-clause-comes : goal.returns-in-Ok-clause-comes
unfolding CheckComes
returns-in-Ok-clause-comes g c = c.in-Ok.ensures.ok

pub returns-in-Err-clause-comes : goal.returns-in-Err-clause-comes
unfolding CheckComes
returns-in-Err-clause-comes g c = c.in-Err.ensures.err
