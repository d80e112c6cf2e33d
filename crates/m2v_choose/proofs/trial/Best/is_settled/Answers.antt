use Rattle.std.proofs.Common.{◌≤◌, ◌*◌, ◌^◌, arith}
use Rattle.std.proofs.lemmas.Bool.{leb-true}
use Rattle.m2v_choose.specs.Trials.{decided}
use Rattle.m2v_choose.proofs.Settled.{earlier_left, later_left}
use Rattle.m2v_choose.proofs.Stands.{two_three}
use Rattle.m2v_choose.proofs.trial.Best.is_settled.Goals as goal

pub returns : goal.returns
returns c = λ yes r rated.
    let t = c.args.task.now in
    let own = c.requires.task.asked.own in
    let kind = two_three t.context.now.kind (omega (arith, own.kind.0, c.if-task-eq1.false)) own.kind.1 in
    let low : c.args.self.now.below ≤ (2 * t.limits.now.q) ^ 2 * 3 = omega (arith, leb-true c.args.self.now.below c.bit_cost.result yes, c.bit_cost.ensures.value) in
    (earlier_left (decided r t) c.args.self.now rated low own kind, later_left (decided r t) c.args.self.now rated low kind)
