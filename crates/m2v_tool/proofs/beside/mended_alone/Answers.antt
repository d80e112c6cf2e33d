use Rattle.std.proofs.Common.{refl}
use Rattle.m2v_tool.specs.Mending.{MendComes}
use Rattle.m2v_tool.proofs.beside.mended_alone.Goals as goal

pub returns-in-Ok-clause-comes : goal.returns-in-Ok-clause-comes
unfolding MendComes
returns-in-Ok-clause-comes g c = record { mended = c.in-Ok.ensures.ok; stands = refl }

pub returns-in-Err-clause-comes : goal.returns-in-Err-clause-comes
unfolding MendComes
returns-in-Err-clause-comes g c = record { stops = c.in-Err.ensures.err; stands = refl }
