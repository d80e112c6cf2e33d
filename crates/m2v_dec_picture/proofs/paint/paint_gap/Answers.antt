use Rattle.std.proofs.Common.{◌∙◌, ◌+◌, ◌-◌, sym, ap, subst, rules}
use Rattle.m2v_pred.specs.declared.mode.Mode.{Mode}
use Rattle.m2v_pred.specs.declared.mode.MbPlace.{MbPlace}
use Rattle.m2v_pred.specs.Predicted.{predicted}
use Rattle.m2v_plane.specs.Samples.{Samples}
use Rattle.m2v_macroblock.specs.Modes.{skipped_mode, first_skipped}
use Rattle.m2v_model.specs.Samples.{skipped_painted}
use Rattle.m2v_dec_picture.specs.Reads.{seen_by}
use Rattle.m2v_dec_picture.specs.Conditions.{CanPredict, place_in}
use Rattle.m2v_dec_picture.proofs.RuleLaws.{gap_can, gap_some, gap_place, gap_painted, gap_over, gap_none, in_gap}
use Rattle.m2v_dec_picture.proofs.PassLaws.{gap_same}
use Rattle.m2v_dec_picture.proofs.paint.paint_gap.Goals as goal

pub returns-then-not-wants-clause-value : goal.returns-then-not-wants-clause-value
returns-then-not-wants-clause-value g c =
    let refs = seen_by (g.V.RefView.at c.args.basis.now.forward.now) (g.V.RefView.at c.args.basis.now.backward.now) in
    let same = c.wants.ensures.same c.if-not-wants.true in
    gap_same g.T.Target.placed same c.args.basis.now.setup.now refs c.args.before.now (first_skipped c.args.before.now) c.args.x.now.gap.count (g.T.Target.samples c.args.out.now)

pub returns-then-gap-eq0-clause-value : goal.returns-then-gap-eq0-clause-value
returns-then-gap-eq0-clause-value g c =
    let refs = seen_by (g.V.RefView.at c.args.basis.now.forward.now) (g.V.RefView.at c.args.basis.now.backward.now) in
    sym (gap_none g.T.Target.placed c.args.basis.now.setup.now refs c.args.before.now (first_skipped c.args.before.now) c.args.x.now.gap.count (g.T.Target.samples c.args.out.now) (search rules))

pub predict-requires-clause-can : goal.predict-requires-clause-can
predict-requires-clause-can g c =
    let s = c.args.basis.now.setup.now in
    let before = c.args.before.now in
    let gap = c.args.x.now.gap in
    let k = c.loop-k.k in
    let lt = c.loop-k-test.true in
    let some = gap_some s c.args.row before c.args.x.now.syntax gap c.requires.state c.requires.can.fits c.requires.gap k lt in
    let can = gap_can s c.args.row before c.args.x.now.syntax gap c.requires.setup c.requires.row c.requires.can c.requires.gap some k lt in
    subst (λ (at : MbPlace). CanPredict s c.skipped_mode-mode.result at) (sym c.place-at.ensures)
    (subst (λ (mode : Mode). CanPredict s mode (place_in s c.args.row (gap.column + k))) (sym c.skipped_mode-mode.ensures.value) can)

pub put-requires : goal.put-requires
put-requires g c =
    let lt = in_gap c.args.basis.now.setup.now.context c.args.row c.args.before.now c.args.x.now.syntax c.args.x.now.gap c.requires.gap c.loop-k.k c.loop-k-test.true in
    record {
      takes = subst (g.T.Target.Takes c.loop-k.out) (sym c.place-at.ensures) (c.loop-k.invariant.takes _ (c.requires.takes (c.args.x.now.gap.column + c.loop-k.k) lt));
    }

pub loop-k-preserved : goal.loop-k-preserved
loop-k-preserved g c =
    let s = c.args.basis.now.setup.now in
    let before = c.args.before.now in
    let f = g.V.RefView.at c.args.basis.now.forward.now in
    let b = g.V.RefView.at c.args.basis.now.backward.now in
    let k = c.loop-k.k in
    let lt = c.loop-k-test.true in
    let block = c.predict.ensures.value in
    let put = c.put.ensures.value (predicted f b c.skipped_mode-mode.result c.place-at.result) block
    ∙ ap (λ (mode : Mode). g.T.Target.placed c.place-at.result (predicted f b mode c.place-at.result) (g.T.Target.samples c.loop-k.out)) c.skipped_mode-mode.ensures.value
    ∙ ap (λ (at : MbPlace). g.T.Target.placed at (predicted f b (skipped_mode s.context before) at) (g.T.Target.samples c.loop-k.out))
    (c.place-at.ensures ∙ sym (gap_place s c.args.row before c.args.x.now.syntax c.args.x.now.gap c.requires.gap k lt)) in
    record {
      samples = ap (λ (z : Samples). skipped_painted g.T.Target.placed s (seen_by f b) before (first_skipped before + (k + 1)) (c.args.x.now.gap.count - (k + 1)) z) put
          ∙ gap_painted g.T.Target.placed s (seen_by f b) before (first_skipped before) k c.args.x.now.gap.count (g.T.Target.samples c.loop-k.out) lt
          ∙ c.loop-k.invariant.samples;
      takes = λ p t. c.put.ensures.takes p (c.loop-k.invariant.takes p t);
    }

pub returns-clause-value : goal.returns-clause-value
returns-clause-value g c =
    sym (gap_over g.T.Target.placed c.args.basis.now.setup.now (seen_by (g.V.RefView.at c.args.basis.now.forward.now) (g.V.RefView.at c.args.basis.now.backward.now)) c.args.before.now
    (first_skipped c.args.before.now + c.loop-k.k) c.loop-k.k c.args.x.now.gap.count (g.T.Target.samples c.loop-k.out) c.loop-k-test.false) ∙ c.loop-k.invariant.samples
