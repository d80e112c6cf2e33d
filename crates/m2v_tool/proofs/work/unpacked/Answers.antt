use Rattle.m2v_tool.specs.Packing.{UnpackComes}
use Rattle.m2v_tool.proofs.work.unpacked.Goals as goal

pub returns-in-Ok-clause-comes : goal.returns-in-Ok-clause-comes
unfolding UnpackComes
returns-in-Ok-clause-comes g c = (c.in-Ok.ensures.ok, c.in-Ok.ensures.told)

pub returns-in-Err-clause-comes : goal.returns-in-Err-clause-comes
unfolding UnpackComes
returns-in-Err-clause-comes g c = (c.in-Err.ensures.err, c.in-Err.ensures.told)
