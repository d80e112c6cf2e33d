use Rattle.std.proofs.Common.{arith}
use Rattle.m2v_choose.specs.Trials.{decided}
use Rattle.m2v_choose.proofs.CheapestIntra.{header_least}
use Rattle.m2v_choose.proofs.Stands.{two_three}
use Rattle.m2v_choose.proofs.intra.least_header.Goals as goal

pub returns-else-task-eq1-clause-value : goal.returns-else-task-eq1-clause-value
returns-else-task-eq1-clause-value c = λ r k.
    let t = c.args.task.now in
    let own = c.requires.task.asked.own in
    let kind = two_three t.context.now.kind (omega (arith, own.kind.0, c.if-task-eq1.false)) own.kind.1 in
    header_least (decided r t) t.first k kind
