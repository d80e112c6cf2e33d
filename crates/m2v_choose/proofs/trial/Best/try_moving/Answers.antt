use Rattle.std.proofs.Common.{refl, sym, ◌∙◌, ap}
use Rattle.m2v_macro.specs.declared.values.MacroSyntax.{MacroSyntax}
use Rattle.m2v_choose.specs.Candidates.{prediction}
use Rattle.m2v_macroblock.specs.Predictions.{prediction_of}
use Rattle.m2v_choose.specs.Trials.{references_of, direction_by, place_for}
use Rattle.m2v_choose.proofs.Motions.{moving_is, moving_backward}
use Rattle.m2v_choose.proofs.trial.Best.try_moving.Goals as goal

pub try_prediction-requires-clause-size : goal.try_prediction-requires-clause-size
try_prediction-requires-clause-size g c = λ e.
    c.requires.size
    (sym (moving_backward c.args.task.now.increment c.args.searched.now.form c.args.goes.forward c.args.goes.backward (direction_by c.args.searched.now.ahead) (direction_by c.args.searched.now.behind))
    ∙ ap (λ (m : MacroSyntax). m.kind.backward) (sym c.moving_syntax-m.ensures) ∙ e)

pub returns : goal.returns
returns g c = record {
  tried = λ f b p q rated.
      let t = c.args.task.now in
      let r = references_of (g.V.RefView.size c.args.forward.now) (g.V.RefView.at c.args.forward.now) (g.V.RefView.at c.args.backward.now) in
      c.try_prediction.ensures.tried (prediction c.args.searched.now.form c.args.goes.forward c.args.goes.backward f b)
      (c.moving_syntax-m.ensures ∙ moving_is t r c.args.searched.now.form c.args.goes.forward c.args.goes.backward (direction_by c.args.searched.now.ahead) (direction_by c.args.searched.now.behind) f b c.requires.task p q)
      refl rated;
  samples = c.try_prediction.ensures.samples
      ∙ ap (prediction_of (g.V.RefView.at c.args.forward.now) (g.V.RefView.at c.args.backward.now) c.args.task.now.context.now (place_for c.args.task.now)) c.moving_syntax-m.ensures;
  kept = c.try_prediction.ensures.kept;
}
