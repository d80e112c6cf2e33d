use Rattle.std.proofs.Common.{refl}
use Rattle.m2v_tool.specs.Making.{MakeComes}
use Rattle.m2v_tool.proofs.work.made.Goals as goal

pub returns-in-Ok-clause-comes : goal.returns-in-Ok-clause-comes
unfolding MakeComes
returns-in-Ok-clause-comes g c = (refl, c.in-Ok.ensures.ok)

pub returns-in-Err-clause-comes : goal.returns-in-Err-clause-comes
unfolding MakeComes
returns-in-Err-clause-comes g c = c.in-Err.ensures.err
