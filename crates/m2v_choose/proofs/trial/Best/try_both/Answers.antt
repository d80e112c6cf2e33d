use Rattle.std.proofs.Common.{true, refl, sym, subst, ap, ◌∙◌}
use Rattle.std.specs.Simd.Lanes.{zip2}
use Rattle.m2v_kernel.specs.Sums.{mean}
use Rattle.m2v_macro.specs.declared.values.MacroSyntax.{MacroSyntax}
use Rattle.m2v_macro.specs.Conditions.{IsMacro}
use Rattle.m2v_macroblock.specs.Predictions.{prediction_of}
use Rattle.m2v_choose.specs.Candidates.{prediction}
use Rattle.m2v_choose.specs.Trials.{CanCode, direction_by, place_for}
use Rattle.m2v_choose.proofs.Means.{both_is}
use Rattle.m2v_choose.proofs.Motions.{moving_is, moving_pattern}
use Rattle.m2v_choose.proofs.Predicted.{samples_told}
use Rattle.m2v_choose.proofs.trial.Best.try_both.Goals as goal

pub try_samples-requires-clause-code : goal.try_samples-requires-clause-code
try_samples-requires-clause-code c = subst (CanCode c.args.task.now) (sym c.moving_syntax-m.ensures) c.requires.code

pub try_samples-requires-clause-stands : goal.try_samples-requires-clause-stands
try_samples-requires-clause-stands c = λ e. subst (IsMacro c.args.task.now.context.now c.args.task.now.first) (sym c.moving_syntax-m.ensures) c.requires.stands

pub try_samples-requires-clause-pattern : goal.try_samples-requires-clause-pattern
try_samples-requires-clause-pattern c =
    ap (λ (m : MacroSyntax). m.pattern) c.moving_syntax-m.ensures
    ∙ moving_pattern c.args.task.now.increment c.args.searched.now.form true true (direction_by c.args.searched.now.ahead) (direction_by c.args.searched.now.behind)

pub returns : goal.returns
returns c = record {
  tried = λ r f b first second p q rated.
      let t = c.args.task.now in
      let form = c.args.searched.now.form in
      let a = direction_by c.args.searched.now.ahead in
      let z = direction_by c.args.searched.now.behind in
      let x = prediction form true true f b in
      let same = c.moving_syntax-m.ensures ∙ moving_is t r form true true a z f b c.requires.task (λ e. p) (λ e. q) in
      let samples = c.average_into.ensures.value ∙ (λ i. zip2 mean (first i) (second i)) ∙ both_is t.context.now t.increment form a z r.forward r.backward (place_for t) c.requires.form
      ∙ sym (ap (prediction_of r.forward r.backward t.context.now (place_for t)) c.moving_syntax-m.ensures) in
      c.try_samples.ensures.tried r x same refl (samples_told r t x c.moving_syntax-m.result c.average_into.new.out same samples) rated;
}
