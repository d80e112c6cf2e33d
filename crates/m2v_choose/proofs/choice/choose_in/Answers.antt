use Rattle.std.proofs.Common.{◌≡◌, ◌∙◌, ap, arith}
use Rattle.m2v_choose.specs.Decisions.{Decision, increment_of}
use Rattle.m2v_choose.specs.Choice.{bits_taken, choice_of}
use Rattle.m2v_choose.specs.Laws.{Fits}
use Rattle.m2v_choose.specs.Trials.{decided, decision, references_of}
use Rattle.m2v_choose.proofs.Skips.{choice_short}
use Rattle.m2v_choose.proofs.choice.choose_in.Given as given
use Rattle.m2v_choose.proofs.choice.choose_in.Goals as goal

-- what is decided
decision_of : (g : given.Over) (c : goal.After-result-1 g) → Decision
decision_of g c = decision (g.V.RefView.size c.args.forward.now) c.args.source.now.at (g.V.RefView.at c.args.forward.now) (g.V.RefView.at c.args.backward.now) c.args.context.now c.args.state.now c.args.limits.now

short : (g : given.Over) (c : goal.After-result-1 g) → Fits (decision_of g c) (choice_of (decision_of g c))
unfolding decision_of
short g c =
    let r = references_of (g.V.RefView.size c.args.forward.now) (g.V.RefView.at c.args.forward.now) (g.V.RefView.at c.args.backward.now) in
    let task = c.task_of-task.ensures.task in
    let d = decision_of g c in
    let same : decided r c.task_of-task.result ≡ d =
    λ i. record {
      dims = r.dims;
      source = (c.task_of-task.ensures.source i).at;
      forward = r.forward;
      backward = r.backward;
      context = c.task_of-task.ensures.context i;
      state = c.task_of-task.ensures.state i;
      limits = c.task_of-task.ensures.limits i;
    } in
    let increment : c.task_of-task.result.increment ≡ increment_of d = task.increment r ∙ ap increment_of same in
    let columns = ap (λ (x : Decision). x.context.columns) same in
    choice_short d c.requires.own c.requires.state.predictors (omega (arith, increment, task.some)) (omega (arith, increment, task.most, columns)) c.requires.room

bits_is : (g : given.Over) (c : goal.After-result-1 g) → c.decide.new.self.choice.bits ≡ bits_taken (decision_of g c) (choice_of (decision_of g c))
unfolding decision_of
bits_is g c =
    let r = references_of (g.V.RefView.size c.args.forward.now) (g.V.RefView.at c.args.forward.now) (g.V.RefView.at c.args.backward.now) in
    let same : decided r c.task_of-task.result ≡ decision_of g c =
    λ i. record {
      dims = r.dims;
      source = (c.task_of-task.ensures.source i).at;
      forward = r.forward;
      backward = r.backward;
      context = c.task_of-task.ensures.context i;
      state = c.task_of-task.ensures.state i;
      limits = c.task_of-task.ensures.limits i;
    } in
    c.decide.ensures.bits ∙ ap (λ (d : Decision). bits_taken d (choice_of d)) same

pub returns-clause-most : goal.returns-clause-most
returns-clause-most g c = let h = short g c in omega (arith, h.most, bits_is g c)

pub returns-clause-fits : goal.returns-clause-fits
unfolding decision_of
returns-clause-fits g c = let h = short g c in omega (arith, h.room, bits_is g c)
