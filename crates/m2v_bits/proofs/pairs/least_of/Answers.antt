use Rattle.std.proofs.Common.{◌≤◌, ◌+◌, get_or, arith, below_more}
use Rattle.m2v_bits.proofs.pairs.least_of.Goals as goal

pub loop-j-preserved : goal.loop-j-preserved
loop-j-preserved c =
    let group = c.args.group.now in
    below_more (λ k. c.min-least.result ≤ get_or group k 0 + get_or group (k + 1) 0) c.loop-j.j (λ k lt. let before = c.loop-j.invariant k lt in omega (arith, before)) (omega arith)

pub returns : goal.returns
returns c some k lt = let least = c.loop-j.invariant k (omega (arith, lt)) in omega (arith, least, some)
