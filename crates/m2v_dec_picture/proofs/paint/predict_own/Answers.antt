use Rattle.std.proofs.Common.{◌∙◌, sym, ap}
use Rattle.m2v_pred.specs.declared.mode.Mode.{Mode}
use Rattle.m2v_pred.specs.Predicted.{block_by, predicted}
use Rattle.m2v_dec_picture.proofs.RuleLaws.{own_prediction}
use Rattle.m2v_dec_picture.proofs.paint.predict_own.Goals as goal

pub predict-requires-clause-can : goal.predict-requires-clause-can
predict-requires-clause-can g c = c.requires.can c.if-x.false

pub returns : goal.returns
returns g c =
    let s = c.args.basis.now.setup.now in
    let f = g.V.RefView.at c.args.basis.now.forward.now in
    let b = g.V.RefView.at c.args.basis.now.backward.now in
    record {
      value = λ e. c.predict.ensures.value
          ∙ ap (λ (mode : Mode). block_by (predicted f b mode c.args.at)) c.requires.mode
          ∙ sym (own_prediction f b s.context c.args.at c.args.x.now.syntax c.if-x.false);
    }
