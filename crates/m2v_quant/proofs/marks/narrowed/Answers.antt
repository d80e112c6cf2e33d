use Rattle.m2v_quant.proofs.Lanes.{narrow_asks, narrows}
use Rattle.m2v_quant.proofs.marks.narrowed.Goals as goal

pub overflow_cast-result : goal.overflow_cast-result
overflow_cast-result c = narrow_asks c.args.f.now c.told-f c.requires

pub returns : goal.returns
returns c = narrows c.args.f.now c.told-f c.requires
