use Rattle.std.proofs.Common.{ℕ, List, [], ◌∷◌, ◌∙◌, sym, ap, subst, true, false}
use Rattle.m2v_pred.specs.declared.mode.Mode.{Mode}
use Rattle.m2v_pred.specs.declared.mode.MbPlace.{MbPlace}
use Rattle.m2v_recon.specs.Macro.{macro_sample, kind_at}
use Rattle.m2v_quant.specs.declared.kind.BlockKind.{BlockKind}
use Rattle.m2v_recon.specs.Steps.{levels_of}
use Rattle.m2v_macro.specs.States.{after}
use Rattle.m2v_macroblock.specs.Macroblocks.{kind_for, macroblock_of}
use Rattle.m2v_macroblock.specs.Predictions.{prediction_of, sample_at}
use Rattle.m2v_model.specs.Samples.{own_painted}
use Rattle.m2v_dec_picture.proofs.RuleLaws.{own_place, own_can, own_some}
use Rattle.m2v_dec_picture.proofs.Alone.{rebuilt_same}
use Rattle.m2v_dec_picture.specs.Conditions.{CanPredict, place_in}
use Rattle.m2v_dec_picture.specs.Reads.{seen_by}
use Rattle.m2v_dec_picture.proofs.PassLaws.{own_same}
use Rattle.m2v_dec_picture.proofs.paint.paint_own.Goals as goal

pub returns-then-not-wants-clause-value : goal.returns-then-not-wants-clause-value
returns-then-not-wants-clause-value g c =
    let refs = seen_by (g.V.RefView.at c.args.basis.now.forward.now) (g.V.RefView.at c.args.basis.now.backward.now) in
    let same = c.wants.ensures.same c.if-not-wants.true in
    own_same g.T.Target.placed same c.args.basis.now.setup.now refs c.args.before.now (macroblock_of c.args.scratch.now.found.syntax c.args.scratch.now.levels) (g.T.Target.samples c.args.out.now)

pub predict_own-requires-clause-can : goal.predict_own-requires-clause-can
predict_own-requires-clause-can g c = λ own.
    let s = c.args.basis.now.setup.now in
    let st = c.args.before.now in
    let x = c.args.scratch.now.found in
    let can = own_can s c.args.row x.column st x.syntax c.requires.setup c.requires.row c.requires.can c.requires.column (own_some s st x.syntax own) in
    subst (λ (at : MbPlace). CanPredict s x.mode at) (sym c.place-at.ensures)
    (subst (λ (mode : Mode). CanPredict s mode (place_in s c.args.row x.column)) (sym c.requires.mode) can)

pub returns-clause-value : goal.returns-clause-value
unfolding own_painted sample_at
returns-clause-value g c =
    let s = c.args.basis.now.setup.now in
    let st = c.args.before.now in
    let m = c.args.scratch.now.found.syntax in
    let place = own_place s c.args.row c.args.scratch.now.found.column st m c.requires.column in
    let f = g.V.RefView.at c.args.basis.now.forward.now in
    let b = g.V.RefView.at c.args.basis.now.backward.now in
    let intra = m.kind.intra in
    let at = c.place-at.ensures ∙ sym place in
    let own = prediction_of f b s.context c.place-at.result m in
    let pred = ap (λ (a : MbPlace). prediction_of f b s.context a m) at in
    let levels = levels_of c.args.scratch.now.levels in
    let kinds = c.of-own.ensures.value ∙ ap (λ (q : ℕ). kind_for s.context intra true q ∷ kind_for s.context intra false q ∷ []) c.requires.quantiser in
    let sample = λ (p : List ℕ) (ks : List BlockKind). macro_sample p levels m.pattern (kind_at ks 0) (kind_at ks 1) m.dct_field in
    let same = rebuilt_same s.context m (after s.context st m).quantiser c.predict_own.new.block.at own levels c.of-own.result.now kinds c.requires.can.fits.intra c.predict_own.ensures.value in
    c.put.ensures.value (sample own c.of-own.result.now) (c.rebuild_block.ensures.value ∙ same)
    ∙ (λ i. g.T.Target.placed (at i) (sample (pred i) (kinds i)) (g.T.Target.samples c.args.out.now))
