use Rattle.m2v_quant.proofs.Placed.{some_other, zeros_placed}
use Rattle.m2v_quant.proofs.forward.put_other.Goals as goal

pub put_by_scan-requires-clause-before : goal.put_by_scan-requires-clause-before
put_by_scan-requires-clause-before c = rw c.requires.zeros (zeros_placed c.args.f.now c.args.kind.now c.args.marks c.requires.intra c.requires.marks)

pub returns-clause-some : goal.returns-clause-some
returns-clause-some c = some_other c.args.f.now c.args.kind.now c.args.marks c.ranges.marks.fits c.requires.intra c.requires.marks
