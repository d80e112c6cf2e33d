use Rattle.std.proofs.Common.{refl}
use Rattle.m2v_tool.specs.Encoding.{EncodeComes}
use Rattle.m2v_tool.proofs.beside.encoded.Goals as goal

pub returns-in-Err-clause-comes : goal.returns-in-Err-clause-comes
unfolding EncodeComes
returns-in-Err-clause-comes g c = (c.in-Err.ensures.err, refl, refl, refl)
