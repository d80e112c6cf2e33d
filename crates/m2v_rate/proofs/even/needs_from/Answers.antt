use Rattle.std.proofs.Common.{◌≡◌, ◌-◌, length, arith}
use Rattle.m2v_rate.specs.Sharing.{need, from_on}
use Rattle.m2v_rate.proofs.Targets.{sum_more}
use Rattle.m2v_rate.proofs.even.needs_from.Goals as goal

pub loop-n-preserved : goal.loop-n-preserved
loop-n-preserved c = record {
  value = omega (arith, c.need-sum.ensures.value, c.loop-n.invariant.value, sum_more (need c.args.group.now) c.args.p c.loop-n.n);
  most = omega arith;
}

pub returns-clause-value : goal.returns-clause-value
unfolding from_on
returns-clause-value c =
    let end : c.loop-n.n ≡ length c.args.group.now.kinds - c.args.p = omega arith in
    rw end at c.loop-n.invariant.value
