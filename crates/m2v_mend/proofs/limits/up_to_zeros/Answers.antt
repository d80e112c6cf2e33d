use Rattle.std.proofs.Common.{arith}
use Rattle.m2v_mend.proofs.LimitLaws.{zeros_more}
use Rattle.m2v_mend.proofs.limits.up_to_zeros.Goals as goal

pub loop-n-preserved : goal.loop-n-preserved
loop-n-preserved c =
    let inv = c.loop-n.invariant in
    record { within = omega (arith, inv.within); zeros = zeros_more c.args.bytes.now c.loop-n.n c.loop-n-test.true inv.within inv.zeros c.if-bytes-n-ne0.false }
