use Rattle.std.proofs.Common.{arith}
use Rattle.std.proofs.lemmas.Bool.{leb-true}
use Rattle.m2v_choose.specs.Candidates.{codings}
use Rattle.m2v_choose.specs.Trials.{decided}
use Rattle.m2v_choose.proofs.CheapestIntra.{intra_left}
use Rattle.m2v_choose.proofs.Stands.{two_three}
use Rattle.m2v_choose.proofs.trial.Best.rules_out_intra.Goals as goal

pub returns : goal.returns
returns c = λ yes r rated.
    let t = c.args.task.now in
    let own = c.requires.task.asked.own in
    let kind = two_three t.context.now.kind (omega (arith, own.kind.0, c.if-task-eq1.false)) own.kind.1 in
    intra_left (decided r t) own kind c.args.self.now rated (omega (arith, leb-true c.args.self.now.below c.bit_cost.result yes, c.bit_cost.ensures.value)) (codings (decided r t))
