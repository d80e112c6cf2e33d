use Rattle.std.proofs.Common.{arith, refl}
use Rattle.m2v_kernel.specs.Sums.{mean}
use Rattle.m2v_kernel.proofs.Steps.{stored_more, stored_all}
use Rattle.m2v_kernel.proofs.mean.average.Goals as goal

pub loop-i-preserved : goal.loop-i-preserved
loop-i-preserved c = stored_more mean c.args.a.now c.args.b.now c.loop-i.out c.loop-i.i _ c.requires.same (omega arith) (omega arith) c.loop-i.invariant refl

pub returns : goal.returns
returns c = record { value = stored_all mean c.args.a.now c.args.b.now c.loop-i.out c.loop-i.i c.requires.same (omega arith) (omega arith) c.loop-i.invariant }
