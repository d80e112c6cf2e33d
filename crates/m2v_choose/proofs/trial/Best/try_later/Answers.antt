use Rattle.std.proofs.lemmas.Bool.{ne_eqb}
use Rattle.m2v_choose.specs.Trials.{decided, references_of}
use Rattle.m2v_choose.proofs.Motions.{no_later_tried, later_tried}
use Rattle.m2v_choose.proofs.trial.Best.try_later.Goals as goal

pub returns-then-task-eq1 : goal.returns-then-task-eq1
returns-then-task-eq1 g c = record {
  tried = λ rated.
      let r = references_of (g.V.RefView.size c.args.forward.now) (g.V.RefView.at c.args.forward.now) (g.V.RefView.at c.args.backward.now) in
      no_later_tried (decided r c.args.task.now) c.args.self.now c.if-task-eq1.true rated;
}

pub returns : goal.returns
returns g c = record {
  tried = λ rated.
      let r = references_of (g.V.RefView.size c.args.forward.now) (g.V.RefView.at c.args.forward.now) (g.V.RefView.at c.args.backward.now) in
      let d = decided r c.args.task.now in
      let first = c.try_plain.ensures.tried rated in
      let second = c.try_fields.ensures.tried first.rated in
      later_tried d c.args.self.now c.try_plain.new.self c.try_fields.new.self (ne_eqb _ _ c.if-task-eq1.false) first second;
}
