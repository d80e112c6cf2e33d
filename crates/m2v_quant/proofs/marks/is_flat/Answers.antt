use Rattle.m2v_quant.proofs.Lanes.{all_sixteen}
use Rattle.m2v_quant.proofs.marks.is_flat.Goals as goal

pub returns : goal.returns
returns c = all_sixteen c.args.matrix.now c.told-matrix
