use Rattle.std.proofs.Common.{refl}
use Rattle.m2v_tool.specs.Encoding.{EncodeComes}
use Rattle.m2v_tool.proofs.beside.encoded_alone.Goals as goal

pub returns-in-Ok-clause-comes : goal.returns-in-Ok-clause-comes
unfolding EncodeComes
returns-in-Ok-clause-comes g c = record { passes = c.settings-passes.ensures.passes; coded = c.in-Ok.ensures.ok; stands = refl }

pub returns-in-Err-clause-comes : goal.returns-in-Err-clause-comes
unfolding EncodeComes
returns-in-Err-clause-comes g c = record { passes = c.settings-passes.ensures.passes; stops = c.in-Err.ensures.err; stands = refl }
