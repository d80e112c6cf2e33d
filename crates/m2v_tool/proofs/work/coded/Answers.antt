use Rattle.std.proofs.Common.{refl}
use Rattle.m2v_tool.specs.Coding.{FlatComes}
use Rattle.m2v_tool.proofs.CodingLaws.{done_of}
use Rattle.m2v_tool.proofs.work.coded.Goals as goal

pub returns-in-Err-clause-comes : goal.returns-in-Err-clause-comes
unfolding FlatComes
returns-in-Err-clause-comes g c = (c.in-Err.ensures.err, refl, refl)

pub returns-in-Ok-flat-clause-comes : goal.returns-in-Ok-flat-clause-comes
unfolding FlatComes
returns-in-Ok-flat-clause-comes g c = done_of _ _ _ _ _ c.in-Ok.ensures.value c.in-Ok.ensures.size (c.in-Ok.ensures.passes.0 refl) c.in-Ok-flat.ensures.ok

pub returns-in-Err-flat-clause-comes : goal.returns-in-Err-flat-clause-comes
unfolding FlatComes
returns-in-Err-flat-clause-comes g c = record {
  passes = c.in-Ok.ensures.passes.0 refl;
  stops = rw (c.in-Ok.ensures.value) at c.in-Err-flat.ensures.err;
}
