use Rattle.std.proofs.Common.{◌≤◌, sym, subst, arith}
use Rattle.m2v_choose.specs.Decisions.{Candidate}
use Rattle.m2v_choose.specs.Choice.{bits_taken, candidate_at, choice_of}
use Rattle.m2v_choose.specs.Trials.{candidate_of}
use Rattle.m2v_slice.specs.Steps.{decision_at}
use Rattle.m2v_slice.proofs.Candidates.{written_bits}
use Rattle.m2v_slice.proofs.macroblocks.code_macroblock.Goals as goal

pub write_chosen-requires-clause-room : goal.write_chosen-requires-clause-room
write_chosen-requires-clause-room g c =
    let d = decision_at c.args.basis.now.source.now (g.V.RefView.at c.args.basis.now.forward.now) (g.V.RefView.at c.args.basis.now.backward.now) c.args.basis.now.context.now c.args.state.now c.args.limits.now in
    let x = candidate_of c.chosen-choice.result in
    let most : bits_taken d x ≤ 4608 = subst (λ (y : Candidate). bits_taken d y ≤ 4608) (sym c.chosen-choice.ensures.value) c.requires.can.fits.most in
    omega (arith, most, written_bits d x c.if-not-choice.true, c.requires.room)

pub returns-then-not-choice-clause-row : goal.returns-then-not-choice-clause-row
returns-then-not-choice-clause-row g c =
    let d = decision_at c.args.basis.now.source.now (g.V.RefView.at c.args.basis.now.forward.now) (g.V.RefView.at c.args.basis.now.backward.now) c.args.basis.now.context.now c.args.state.now c.args.limits.now in
    c.paint.ensures.value (candidate_at d (choice_of d)) c.chosen-choice.ensures.samples

pub returns-else-not-choice-clause-row : goal.returns-else-not-choice-clause-row
returns-else-not-choice-clause-row g c =
    let d = decision_at c.args.basis.now.source.now (g.V.RefView.at c.args.basis.now.forward.now) (g.V.RefView.at c.args.basis.now.backward.now) c.args.basis.now.context.now c.args.state.now c.args.limits.now in
    c.paint.ensures.value (candidate_at d (choice_of d)) c.chosen-choice.ensures.samples
