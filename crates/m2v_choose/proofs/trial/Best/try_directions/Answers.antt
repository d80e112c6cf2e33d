use Rattle.std.proofs.Common.{◌≡◌, ap, ◌∙◌, inl, inr}
use Rattle.std.proofs.lemmas.Bool.{eq-eqb, ne_eqb}
use Rattle.m2v_pred.specs.declared.block.Block16.{Block16}
use Rattle.m2v_choose.specs.Trials.{decided, references_of}
use Rattle.m2v_choose.proofs.Motions.{one_direction, three_directions}
use Rattle.m2v_choose.proofs.trial.Best.try_directions.Goals as goal

pub returns-then-task-eq2 : goal.returns-then-task-eq2
returns-then-task-eq2 g c = record {
  tried = λ f b p q rated.
      let r = references_of (g.V.RefView.size c.args.forward.now) (g.V.RefView.at c.args.forward.now) (g.V.RefView.at c.args.backward.now) in
      let d = decided r c.args.task.now in
      one_direction d c.args.searched.now.form f b c.args.self.now c.try_moving.new.self (eq-eqb _ _ c.if-task-eq2.true) (c.try_moving.ensures.tried f b (λ e. p) (λ e. absurd cc) rated);
}

pub returns : goal.returns
returns g c = record {
  tried = λ f b p q rated.
      let r = references_of (g.V.RefView.size c.args.forward.now) (g.V.RefView.at c.args.forward.now) (g.V.RefView.at c.args.backward.now) in
      let d = decided r c.args.task.now in
      let three : c.args.task.now.context.now.kind ≡ 3 = elim c.requires.kind [ inl two ↦ absurd (c.if-task-eq2.false two) | inr is ↦ is ] in
      let first = c.try_moving.ensures.tried f b (λ e. p) (λ e. absurd cc) rated in
      let second = c.try_moving-2.ensures.tried f b (λ e. absurd cc) (λ e. q three) first.rated in
      let ahead = ap (λ (x : Block16). x.at) c.try_moving-2.ensures.kept ∙ c.try_moving.ensures.samples in
      let third = c.try_both.ensures.tried r f b ahead c.try_moving-2.ensures.samples p (q three) second.rated in
      three_directions d c.args.searched.now.form f b c.args.self.now c.try_moving.new.self c.try_moving-2.new.self c.try_both.new.self (ne_eqb _ _ c.if-task-eq2.false) first second third;
}
