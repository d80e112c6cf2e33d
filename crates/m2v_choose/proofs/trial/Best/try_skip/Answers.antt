use Rattle.std.proofs.Common.{◌≡◌, true, ◌⊎◌, ap, sym, ◌∙◌, subst}
use Rattle.m2v_pred.specs.declared.mode.MbPlace.{MbPlace}
use Rattle.m2v_pred.specs.declared.mode.Mode.{Mode}
use Rattle.m2v_pred.specs.Vectors.{IsPlace, IsInside, HoldsRead, size_read}
use Rattle.m2v_pred.specs.Predicted.{predicted, block_by}
use Rattle.m2v_macroblock.specs.Modes.{skipped_mode}
use Rattle.m2v_choose.specs.Trials.{decided, references_of, place_for}
use Rattle.m2v_choose.proofs.Predicted.{size_is}
use Rattle.m2v_choose.proofs.Still.{skipped_zero}
use Rattle.m2v_choose.proofs.Skips.{skip_reads, skip_tried, skip_left}
use Rattle.m2v_choose.proofs.trial.Best.try_skip.Goals as goal

pub returns-then-not-may_skip : goal.returns-then-not-may_skip
returns-then-not-may_skip g c = record {
  tried = λ still squares rated.
      let r = references_of (g.V.RefView.size c.args.forward.now) (g.V.RefView.at c.args.forward.now) (g.V.RefView.at c.args.backward.now) in
      skip_left (decided r c.args.task.now) c.may_skip.result c.args.self.now (sym (c.may_skip.ensures.value (g.V.RefView.at c.args.forward.now) (g.V.RefView.at c.args.backward.now))) c.if-not-may_skip.true rated;
}

pub predict_in-requires-clause-some : goal.predict_in-requires-clause-some
predict_in-requires-clause-some g c =
    let r = references_of (g.V.RefView.size c.args.forward.now) (g.V.RefView.at c.args.forward.now) (g.V.RefView.at c.args.backward.now) in
    let h = skip_reads c.args.task.now r (g.V.RefView.Holds c.args.forward.now) (g.V.RefView.Holds c.args.backward.now) c.requires.task (g.V.RefView.size c.args.backward.now) c.requires.references
    (sym (c.may_skip.ensures.value (g.V.RefView.at c.args.forward.now) (g.V.RefView.at c.args.backward.now)) ∙ c.if-not-may_skip.false) c.requires.direction (c.may_skip.ensures.inside c.if-not-may_skip.false) in
    subst (λ (m : Mode). (m.forward ≡ true) ⊎ (m.backward ≡ true)) (sym c.skipped_mode-mode.ensures.value) h.some

pub predict_in-requires-clause-size : goal.predict_in-requires-clause-size
predict_in-requires-clause-size g c = λ f b.
    let r = references_of (g.V.RefView.size c.args.forward.now) (g.V.RefView.at c.args.forward.now) (g.V.RefView.at c.args.backward.now) in
    let h = skip_reads c.args.task.now r (g.V.RefView.Holds c.args.forward.now) (g.V.RefView.Holds c.args.backward.now) c.requires.task (g.V.RefView.size c.args.backward.now) c.requires.references
    (sym (c.may_skip.ensures.value (g.V.RefView.at c.args.forward.now) (g.V.RefView.at c.args.backward.now)) ∙ c.if-not-may_skip.false) c.requires.direction (c.may_skip.ensures.inside c.if-not-may_skip.false) in
    c.requires.references.sizes (h.three (subst (λ (m : Mode). m.backward ≡ true) c.skipped_mode-mode.ensures.value b))

pub predict_in-requires-clause-place : goal.predict_in-requires-clause-place
predict_in-requires-clause-place g c =
    let r = references_of (g.V.RefView.size c.args.forward.now) (g.V.RefView.at c.args.forward.now) (g.V.RefView.at c.args.backward.now) in
    let h = skip_reads c.args.task.now r (g.V.RefView.Holds c.args.forward.now) (g.V.RefView.Holds c.args.backward.now) c.requires.task (g.V.RefView.size c.args.backward.now) c.requires.references
    (sym (c.may_skip.ensures.value (g.V.RefView.at c.args.forward.now) (g.V.RefView.at c.args.backward.now)) ∙ c.if-not-may_skip.false) c.requires.direction (c.may_skip.ensures.inside c.if-not-may_skip.false) in
    let f = g.V.RefView.size c.args.forward.now in
    let b = g.V.RefView.size c.args.backward.now in
    let size : size_read c.skipped_mode-mode.result f b ≡ f =
    ap (λ (m : Mode). size_read m f b) c.skipped_mode-mode.ensures.value ∙ size_is (skipped_mode c.args.task.now.context.now c.args.task.now.state.now) f b h.some (λ e. c.requires.references.sizes (h.three e)) in
    subst (IsPlace c.place_of.result) (sym size) (subst (λ (p : MbPlace). IsPlace p f) (sym c.place_of.ensures) h.lies)

pub predict_in-requires-clause-inside : goal.predict_in-requires-clause-inside
predict_in-requires-clause-inside g c =
    let r = references_of (g.V.RefView.size c.args.forward.now) (g.V.RefView.at c.args.forward.now) (g.V.RefView.at c.args.backward.now) in
    let h = skip_reads c.args.task.now r (g.V.RefView.Holds c.args.forward.now) (g.V.RefView.Holds c.args.backward.now) c.requires.task (g.V.RefView.size c.args.backward.now) c.requires.references
    (sym (c.may_skip.ensures.value (g.V.RefView.at c.args.forward.now) (g.V.RefView.at c.args.backward.now)) ∙ c.if-not-may_skip.false) c.requires.direction (c.may_skip.ensures.inside c.if-not-may_skip.false) in
    let f = g.V.RefView.size c.args.forward.now in
    let b = g.V.RefView.size c.args.backward.now in
    let size : size_read c.skipped_mode-mode.result f b ≡ f =
    ap (λ (m : Mode). size_read m f b) c.skipped_mode-mode.ensures.value ∙ size_is (skipped_mode c.args.task.now.context.now c.args.task.now.state.now) f b h.some (λ e. c.requires.references.sizes (h.three e)) in
    subst (IsInside c.skipped_mode-mode.result c.place_of.result) (sym size)
    (subst (λ (p : MbPlace). IsInside c.skipped_mode-mode.result p f) (sym c.place_of.ensures)
    (subst (λ (m : Mode). IsInside m (place_for c.args.task.now) f) (sym c.skipped_mode-mode.ensures.value) h.inside))

pub predict_in-requires-clause-forward : goal.predict_in-requires-clause-forward
predict_in-requires-clause-forward g c = λ e.
    let r = references_of (g.V.RefView.size c.args.forward.now) (g.V.RefView.at c.args.forward.now) (g.V.RefView.at c.args.backward.now) in
    let h = skip_reads c.args.task.now r (g.V.RefView.Holds c.args.forward.now) (g.V.RefView.Holds c.args.backward.now) c.requires.task (g.V.RefView.size c.args.backward.now) c.requires.references
    (sym (c.may_skip.ensures.value (g.V.RefView.at c.args.forward.now) (g.V.RefView.at c.args.backward.now)) ∙ c.if-not-may_skip.false) c.requires.direction (c.may_skip.ensures.inside c.if-not-may_skip.false) in
    let holds = g.V.RefView.Holds c.args.forward.now in
    subst (HoldsRead holds c.skipped_mode-mode.result 0) (sym c.place_of.ensures)
    (subst (λ (m : Mode). HoldsRead holds m 0 (place_for c.args.task.now)) (sym c.skipped_mode-mode.ensures.value) (h.forward (subst (λ (m : Mode). m.forward ≡ true) c.skipped_mode-mode.ensures.value e)))

pub predict_in-requires-clause-backward : goal.predict_in-requires-clause-backward
predict_in-requires-clause-backward g c = λ e.
    let r = references_of (g.V.RefView.size c.args.forward.now) (g.V.RefView.at c.args.forward.now) (g.V.RefView.at c.args.backward.now) in
    let h = skip_reads c.args.task.now r (g.V.RefView.Holds c.args.forward.now) (g.V.RefView.Holds c.args.backward.now) c.requires.task (g.V.RefView.size c.args.backward.now) c.requires.references
    (sym (c.may_skip.ensures.value (g.V.RefView.at c.args.forward.now) (g.V.RefView.at c.args.backward.now)) ∙ c.if-not-may_skip.false) c.requires.direction (c.may_skip.ensures.inside c.if-not-may_skip.false) in
    let holds = g.V.RefView.Holds c.args.backward.now in
    subst (HoldsRead holds c.skipped_mode-mode.result 1) (sym c.place_of.ensures)
    (subst (λ (m : Mode). HoldsRead holds m 1 (place_for c.args.task.now)) (sym c.skipped_mode-mode.ensures.value) (h.backward (subst (λ (m : Mode). m.backward ≡ true) c.skipped_mode-mode.ensures.value e)))

pub returns-then-task-eq2 : goal.returns-then-task-eq2
returns-then-task-eq2 g c = record {
  tried = λ still squares rated.
      let r = references_of (g.V.RefView.size c.args.forward.now) (g.V.RefView.at c.args.forward.now) (g.V.RefView.at c.args.backward.now) in
      let t = c.args.task.now in
      let d = decided r t in
      let f = g.V.RefView.at c.args.forward.now in
      let b = g.V.RefView.at c.args.backward.now in
      let same = skipped_zero t.context.now t.state.now c.if-task-eq2.true in
      skip_tried d c.may_skip.result c.args.self.now c.try_skipped.new.self (sym (c.may_skip.ensures.value f b)) c.if-not-may_skip.false
      (c.try_skipped.ensures.tried r (still c.if-task-eq2.true ∙ ap (λ (m : Mode). block_by (predicted f b m (place_for t))) (sym same)) (squares c.if-task-eq2.true) rated);
}

pub returns : goal.returns
returns g c = record {
  tried = λ still squares rated.
      let r = references_of (g.V.RefView.size c.args.forward.now) (g.V.RefView.at c.args.forward.now) (g.V.RefView.at c.args.backward.now) in
      let f = g.V.RefView.at c.args.forward.now in
      let b = g.V.RefView.at c.args.backward.now in
      skip_tried (decided r c.args.task.now) c.may_skip.result c.args.self.now c.try_skipped-2.new.self (sym (c.may_skip.ensures.value (g.V.RefView.at c.args.forward.now) (g.V.RefView.at c.args.backward.now))) c.if-not-may_skip.false
      (c.try_skipped-2.ensures.tried r (c.predict_in.ensures.value ∙ (λ i. block_by (predicted f b (c.skipped_mode-mode.ensures.value i) (c.place_of.ensures i)))) c.squared.ensures.value rated);
}
