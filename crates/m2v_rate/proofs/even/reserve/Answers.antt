use Rattle.std.proofs.Common.{◌≡◌, ◌+◌, ◌-◌, length, arith, min}
use Rattle.m2v_rate.specs.Sharing.{lack, reserve}
use Rattle.m2v_rate.proofs.Targets.{sum_more}
use Rattle.m2v_rate.proofs.even.reserve.Goals as goal

pub loop-n-preserved : goal.loop-n-preserved
loop-n-preserved c = record {
  value = omega (arith, c.lack-sum.ensures.value, c.loop-n.invariant.value, sum_more (lack c.args.group.now c.args.p) (c.args.p + 1) c.loop-n.n);
  most = omega arith;
}

pub returns-clause-value : goal.returns-clause-value
unfolding reserve
returns-clause-value c =
    let end : c.loop-n.n ≡ min 3 (length c.args.group.now.kinds - (c.args.p + 1)) = omega arith in
    rw end at c.loop-n.invariant.value
