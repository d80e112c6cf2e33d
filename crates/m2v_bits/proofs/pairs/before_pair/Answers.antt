use Rattle.std.proofs.Common.{◌<◌, ◌+◌, get_or, arith, below_more}
use Rattle.m2v_bits.proofs.pairs.before_pair.Goals as goal

pub loop-n-preserved : goal.loop-n-preserved
loop-n-preserved c =
    let bytes = c.args.bytes.now in
    below_more (λ k. 0 < get_or bytes k 0 + get_or bytes (k + 1) 0) c.loop-n.n c.loop-n.invariant (omega arith)
