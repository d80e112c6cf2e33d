use Rattle.std.proofs.Common.{refl, sym}
use Rattle.m2v_tool.specs.Decoding.{DecodeComes}
use Rattle.m2v_tool.proofs.work.decoded.Goals as goal

pub returns-in-Err-clause-comes : goal.returns-in-Err-clause-comes
unfolding DecodeComes
returns-in-Err-clause-comes g c = (sym c.in-Err.ensures.value, refl, refl)

pub returns-in-Ok-decode_with-clause-comes : goal.returns-in-Ok-decode_with-clause-comes
unfolding DecodeComes
returns-in-Ok-decode_with-clause-comes g c = (sym c.in-Ok.ensures.value, c.in-Ok-decode_with.ensures.ok)

pub returns-in-Err-decode_with-clause-comes : goal.returns-in-Err-decode_with-clause-comes
unfolding DecodeComes
returns-in-Err-decode_with-clause-comes g c = (sym c.in-Ok.ensures.value, c.in-Err-decode_with.ensures.err)
