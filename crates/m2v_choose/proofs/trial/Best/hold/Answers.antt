use Rattle.std.proofs.Common.{arith}
use Rattle.m2v_choose.proofs.trial.Best.hold.Goals as goal
use Rattle.m2v_choose.specs.Trials.{references_of}

pub returns-then-task-eq1-clause-candidate : goal.returns-then-task-eq1-clause-candidate
returns-then-task-eq1-clause-candidate g c =
    let r = references_of (g.V.RefView.size c.args.forward.now) (g.V.RefView.at c.args.forward.now) (g.V.RefView.at c.args.backward.now) in
    c.hold_intra.ensures.candidate r

pub returns-then-task-eq1-clause-rated : goal.returns-then-task-eq1-clause-rated
returns-then-task-eq1-clause-rated g c =
    let r = references_of (g.V.RefView.size c.args.forward.now) (g.V.RefView.at c.args.forward.now) (g.V.RefView.at c.args.backward.now) in
    c.hold_intra.ensures.rated r

pub returns-then-task-eq1-clause-score : goal.returns-then-task-eq1-clause-score
returns-then-task-eq1-clause-score g c =
    let r = references_of (g.V.RefView.size c.args.forward.now) (g.V.RefView.at c.args.forward.now) (g.V.RefView.at c.args.backward.now) in
    c.hold_intra.ensures.score r

pub returns-then-task-eq1-clause-still : goal.returns-then-task-eq1-clause-still
returns-then-task-eq1-clause-still g c = λ two. absurd (omega (arith, two, c.if-task-eq1.true))

pub returns-then-task-eq1-clause-squares : goal.returns-then-task-eq1-clause-squares
returns-then-task-eq1-clause-squares g c = λ two. absurd (omega (arith, two, c.if-task-eq1.true))
