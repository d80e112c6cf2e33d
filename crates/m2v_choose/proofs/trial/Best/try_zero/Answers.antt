use Rattle.std.proofs.Common.{false, sym, ◌∙◌, ap, subst}
use Rattle.std.specs.Prelude.{nat_eq, ◌∷◌, []}
use Rattle.std.proofs.lemmas.Bool.{eq-eqb, ne_eqb}
use Rattle.m2v_macro.specs.declared.values.MacroSyntax.{MacroSyntax}
use Rattle.m2v_choose.specs.Candidates.{zero_prediction}
use Rattle.m2v_choose.specs.Trials.{decided, direction_by, CanCode}
use Rattle.m2v_choose.proofs.Motions.{zero_code, zero_is, zero_tried, nothing_tried, moving_pattern, zero_bare}
use Rattle.m2v_choose.proofs.Still.{zero_samples}
use Rattle.m2v_choose.proofs.trial.Best.try_zero.Goals as goal

pub try_samples-requires-clause-code : goal.try_samples-requires-clause-code
try_samples-requires-clause-code c =
    let none = direction_by c.no_vectors-none.result in
    subst (CanCode c.args.task.now) (sym c.moving_syntax-m.ensures) (zero_code c.args.task.now c.requires.task c.no_form.result none none c.no_form.ensures c.if-task-eq2.true)

pub try_samples-requires-clause-stands : goal.try_samples-requires-clause-stands
try_samples-requires-clause-stands c = λ e. absurd cc

pub try_samples-requires-clause-pattern : goal.try_samples-requires-clause-pattern
try_samples-requires-clause-pattern c =
    let none = direction_by c.no_vectors-none.result in
    ap (λ (m : MacroSyntax). m.pattern) c.moving_syntax-m.ensures ∙ moving_pattern c.args.task.now.increment c.no_form.result false false none none

pub returns-then-task-eq2 : goal.returns-then-task-eq2
returns-then-task-eq2 c = record {
  tried = λ r still rated.
      let t = c.args.task.now in
      let d = decided r t in
      let none = direction_by c.no_vectors-none.result in
      zero_tried d c.args.self.now c.try_samples.new.self (eq-eqb _ _ c.if-task-eq2.true)
      (c.try_samples.ensures.tried r (zero_prediction d) (c.moving_syntax-m.ensures ∙ zero_is t r c.no_form.result none none c.requires.task c.no_form.ensures) (zero_bare d)
      (still c.if-task-eq2.true ∙ sym (zero_samples t r)) rated);
}

pub returns-else-task-eq2 : goal.returns-else-task-eq2
returns-else-task-eq2 c = record {
  tried = λ r still rated.
      let d = decided r c.args.task.now in
      nothing_tried d (nat_eq d.context.kind 2) (zero_prediction d ∷ []) c.args.self.now (ne_eqb _ _ c.if-task-eq2.false) rated;
}
