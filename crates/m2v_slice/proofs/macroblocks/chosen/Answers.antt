use Rattle.std.proofs.Common.{ℕ, ◌≤◌, List, ap, sym, ◌∙◌, subst}
use Rattle.m2v_choose.specs.Candidates.{hold}
use Rattle.m2v_choose.specs.Choice.{bits_taken, choice_of, samples_of}
use Rattle.m2v_choose.specs.Trials.{decision}
use Rattle.m2v_slice.specs.Steps.{decision_at}
use Rattle.m2v_slice.proofs.AnySize.{same_choice, same_hold, same_samples}
use Rattle.m2v_slice.proofs.macroblocks.chosen.Goals as goal

pub choose_in-requires-clause-room : goal.choose_in-requires-clause-room
choose_in-requires-clause-room g c =
    let size = g.V.RefView.size c.args.basis.now.forward.now in
    let f = g.V.RefView.at c.args.basis.now.forward.now in
    let b = g.V.RefView.at c.args.basis.now.backward.now in
    let context = c.args.basis.now.context.now in
    let st = c.args.state.now in
    let limits = c.args.limits.now in
    let d = decision_at c.args.basis.now.source.now f b context st limits in
    subst (λ (xs : List ℕ). bits_taken (decision size xs f b context st limits) (hold (decision size xs f b context st limits)) ≤ limits.room) (sym c.copy_block.ensures.value)
    (subst (λ (n : ℕ). n ≤ limits.room) (sym (same_hold size d)) c.requires.can.held)

pub returns : goal.returns
returns g c = record {
  value =
      let size = g.V.RefView.size c.args.basis.now.forward.now in
      let f = g.V.RefView.at c.args.basis.now.forward.now in
      let b = g.V.RefView.at c.args.basis.now.backward.now in
      let context = c.args.basis.now.context.now in
      let st = c.args.state.now in
      let limits = c.args.limits.now in
      c.choose_in.ensures.value ∙ ap (λ (xs : List ℕ). choice_of (decision size xs f b context st limits)) c.copy_block.ensures.value
      ∙ same_choice size (decision_at c.args.basis.now.source.now f b context st limits) c.requires.can.references.forward_size;
  samples =
      let size = g.V.RefView.size c.args.basis.now.forward.now in
      let f = g.V.RefView.at c.args.basis.now.forward.now in
      let b = g.V.RefView.at c.args.basis.now.backward.now in
      let context = c.args.basis.now.context.now in
      let st = c.args.state.now in
      let limits = c.args.limits.now in
      let d = decision_at c.args.basis.now.source.now f b context st limits in
      let made = λ (xs : List ℕ). samples_of (decision size xs f b context st limits) (choice_of (decision size xs f b context st limits)) in
      c.choose_in.ensures.samples ∙ ap made c.copy_block.ensures.value
      ∙ same_samples size d (choice_of (decision size d.source f b context st limits))
      ∙ ap (samples_of d) (same_choice size d c.requires.can.references.forward_size);
}
