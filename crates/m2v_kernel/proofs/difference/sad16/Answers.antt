use Rattle.std.proofs.Common.{◌+◌, arith, ◌∙◌}
use Rattle.m2v_kernel.proofs.Steps.{sad_more, sad_step, summed_all}
use Rattle.m2v_kernel.proofs.difference.sad16.Goals as goal

pub loop-at-preserved : goal.loop-at-preserved
loop-at-preserved c =
    (sad_step c.args.a.now c.args.b.now c.loop-at.at (c.loop-at.at + 64) c.loop-at.sum _ (omega arith) c.loop-at.invariant.0 c.sad_four-sum.ensures.sum, omega arith, omega arith)

pub loop-i-preserved : goal.loop-i-preserved
loop-i-preserved c =
    (omega (arith, sad_more c.args.a.now c.args.b.now c.loop-i.i c.requires.same c.loop-i-test.true), omega arith)

pub returns : goal.returns
returns c = record { value = c.loop-i.invariant.0 ∙ summed_all c.args.a.now c.args.b.now c.loop-i.i c.requires.same (omega arith) }
