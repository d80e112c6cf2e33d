use Rattle.std.proofs.Common.{refl, sym}
use Rattle.m2v_tool.specs.Packing.{PackComes}
use Rattle.m2v_tool.proofs.work.packed_frames.Goals as goal

pub returns-in-Err-clause-comes : goal.returns-in-Err-clause-comes
unfolding PackComes
returns-in-Err-clause-comes g c = (sym c.in-Err.ensures.value, refl, refl)

pub returns-in-Ok-pack-clause-comes : goal.returns-in-Ok-pack-clause-comes
unfolding PackComes
returns-in-Ok-pack-clause-comes g c = (sym c.in-Ok.ensures.value, c.in-Ok-pack.ensures.ok)

pub returns-in-Err-pack-clause-comes : goal.returns-in-Err-pack-clause-comes
unfolding PackComes
returns-in-Err-pack-clause-comes g c = (sym c.in-Ok.ensures.value, c.in-Err-pack.ensures.err)
