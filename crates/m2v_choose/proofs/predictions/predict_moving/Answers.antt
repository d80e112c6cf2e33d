use Rattle.std.proofs.Common.{◌≡◌, Bool, true, false, ◌⊎◌, ap, sym, ◌∙◌, subst, arith}
use Rattle.m2v_macro.specs.Conditions.{IsMacro}
use Rattle.m2v_pred.specs.declared.mode.MbPlace.{MbPlace}
use Rattle.m2v_pred.specs.declared.mode.Mode.{Mode}
use Rattle.m2v_pred.specs.Vectors.{IsPlace, IsInside, HoldsRead, size_read}
use Rattle.m2v_pred.specs.Predicted.{predicted, block_by}
use Rattle.m2v_macroblock.specs.Modes.{mode_of}
use Rattle.m2v_choose.specs.Trials.{with_blocks, sends_code, place_for}
use Rattle.m2v_choose.proofs.OwnReady.{own_context}
use Rattle.m2v_choose.proofs.Predicted.{mode_blocks, size_is, predicted_is}
use Rattle.m2v_choose.proofs.predictions.predict_moving.Given as given
use Rattle.m2v_choose.proofs.predictions.predict_moving.Goals as goal

pub mode-mode-requires-clause-context : goal.mode-mode-requires-clause-context
mode-mode-requires-clause-context g c = own_context c.args.task.now.context.now c.requires.task.asked.own

pub mode-mode-requires-clause-fits : goal.mode-mode-requires-clause-fits
mode-mode-requires-clause-fits g c =
    let t = c.args.task.now in
    let q = t.state.now.quantiser in
    let same : c.with_blocks-coded.result ≡ with_blocks c.args.bare.now (sends_code t.state.now q) q false 63 =
    c.with_blocks-coded.ensures ∙ ap (λ (b : Bool). with_blocks c.args.bare.now b q false 63) c.sends.ensures in
    (t.first, subst (IsMacro t.context.now t.first) (sym same) (c.requires.code.macro q false 63 c.requires.task.asked.state.quantiser (λ e. absurd cc) (omega arith) (omega arith)))

-- the motion is that of the macroblock
mode_is : (g : given.Over) (c : goal.After-predict_in-arg-2-1 g) → c.mode-mode.result ≡ mode_of c.args.task.now.context.now c.args.bare.now
mode_is g c =
    c.mode-mode.ensures.value ∙ ap (mode_of c.args.task.now.context.now) c.with_blocks-coded.ensures
    ∙ mode_blocks c.args.task.now.context.now c.args.bare.now _ _ _ _

pub predict_in-requires-clause-some : goal.predict_in-requires-clause-some
predict_in-requires-clause-some g c = subst (λ (m : Mode). (m.forward ≡ true) ⊎ (m.backward ≡ true)) (sym (mode_is g c)) c.requires.predict.some

pub predict_in-requires-clause-size : goal.predict_in-requires-clause-size
predict_in-requires-clause-size g c = λ f b. c.requires.size (c.requires.predict.told (subst (λ (m : Mode). m.backward ≡ true) (mode_is g c) b))

size_of : (g : given.Over) (c : goal.After-predict_in-arg-2-1 g)
    → size_read c.mode-mode.result (g.V.RefView.size c.args.forward.now) (g.V.RefView.size c.args.backward.now) ≡ g.V.RefView.size c.args.forward.now
size_of g c =
    ap (λ (m : Mode). size_read m (g.V.RefView.size c.args.forward.now) (g.V.RefView.size c.args.backward.now)) (mode_is g c)
    ∙ size_is (mode_of c.args.task.now.context.now c.args.bare.now) (g.V.RefView.size c.args.forward.now) (g.V.RefView.size c.args.backward.now) c.requires.predict.some
    (λ e. c.requires.size (c.requires.predict.told e))

pub predict_in-requires-clause-place : goal.predict_in-requires-clause-place
predict_in-requires-clause-place g c =
    subst (IsPlace c.place_of.result) (sym (size_of g c)) (subst (λ (p : MbPlace). IsPlace p (g.V.RefView.size c.args.forward.now)) (sym c.place_of.ensures) c.requires.predict.lies)

pub predict_in-requires-clause-inside : goal.predict_in-requires-clause-inside
predict_in-requires-clause-inside g c =
    let d = g.V.RefView.size c.args.forward.now in
    subst (IsInside c.mode-mode.result c.place_of.result) (sym (size_of g c))
    (subst (λ (p : MbPlace). IsInside c.mode-mode.result p d) (sym c.place_of.ensures)
    (subst (λ (m : Mode). IsInside m (place_for c.args.task.now) d) (sym (mode_is g c)) c.requires.predict.inside))

pub predict_in-requires-clause-forward : goal.predict_in-requires-clause-forward
predict_in-requires-clause-forward g c = λ e.
    let h = c.requires.predict.forward (subst (λ (m : Mode). m.forward ≡ true) (mode_is g c) e) in
    let holds = g.V.RefView.Holds c.args.forward.now in
    subst (HoldsRead holds c.mode-mode.result 0) (sym c.place_of.ensures) (subst (λ (m : Mode). HoldsRead holds m 0 (place_for c.args.task.now)) (sym (mode_is g c)) h)

pub predict_in-requires-clause-backward : goal.predict_in-requires-clause-backward
predict_in-requires-clause-backward g c = λ e.
    let h = c.requires.predict.backward (subst (λ (m : Mode). m.backward ≡ true) (mode_is g c) e) in
    let holds = g.V.RefView.Holds c.args.backward.now in
    subst (HoldsRead holds c.mode-mode.result 1) (sym c.place_of.ensures) (subst (λ (m : Mode). HoldsRead holds m 1 (place_for c.args.task.now)) (sym (mode_is g c)) h)

mode_told : (g : given.Over) (c : goal.After-predict_in g) → c.mode-mode.result ≡ mode_of c.args.task.now.context.now c.args.bare.now
mode_told g c =
    c.mode-mode.ensures.value ∙ ap (mode_of c.args.task.now.context.now) c.with_blocks-coded.ensures
    ∙ mode_blocks c.args.task.now.context.now c.args.bare.now _ _ _ _

pub returns : goal.returns
returns g c =
    let f = g.V.RefView.at c.args.forward.now in
    let b = g.V.RefView.at c.args.backward.now in
    c.predict_in.ensures.value ∙ (λ i. block_by (predicted f b (mode_told g c i) (c.place_of.ensures i)))
    ∙ predicted_is f b c.args.task.now.context.now (place_for c.args.task.now) c.args.bare.now c.requires.code.other
