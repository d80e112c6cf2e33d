use Rattle.std.proofs.Common.{◌≡◌, ◌<◌, length, arith}
use Rattle.std.proofs.lemmas.List.Elements.{All-push}
use Rattle.m2v_set.specs.Numbers.{IsInterval}
use Rattle.m2v_order.proofs.TimesBehind.{intervals_more, intervals_all}
use Rattle.m2v_order.proofs.times.intervals.Goals as goal

pub loop-i-preserved : goal.loop-i-preserved
loop-i-preserved c =
    let lt : c.loop-i.i < length c.args.pictures.now = omega arith in record {
      value = rw c.in_ok-push.ensures.items
          (intervals_more c.args.settings.now c.loop-i.last c.last_after-last.result c.args.pictures.now c.loop-i.i _ c.loop-i.times.items _ c.interval_after.result lt c.interval_after.ensures.value c.last_after-last.ensures.value c.loop-i.invariant.value);
      times = rw c.in_ok-push.ensures.items
          (All-push (IsInterval c.args.settings.now) c.loop-i.times.items c.interval_after.result c.loop-i.invariant.times c.interval_after.ensures.time);
    }

pub returns-clause-value : goal.returns-clause-value
returns-clause-value c =
    let e : c.loop-i.i ≡ length c.args.pictures.now = omega arith in
    intervals_all c.args.settings.now c.loop-i.last c.args.pictures.now c.loop-i.times.items _ (rw e at c.loop-i.invariant.value)
