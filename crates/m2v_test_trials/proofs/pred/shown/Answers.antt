use Rattle.std.proofs.Common.{◌≡◌, rules, sym, subst}
use Rattle.m2v_plane.specs.declared.dims.Dims.{Dims}
use Rattle.m2v_pred.specs.Vectors.{IsInside, IsPlace}
use Rattle.m2v_pred.proofs.WholeFrames.{frame_holds, read_same}
use Rattle.m2v_test_trials.proofs.pred.shown.Goals as goal

pub predict-requires-clause-forward : goal.predict-requires-clause-forward
predict-requires-clause-forward c = λ used.
    let is = subst (λ (d : Dims). IsInside c.args.mode.now c.args.at d) c.dims-dims.ensures.value (c.inside.ensures.value.0 c.if-not-inside.false) in
    frame_holds c.args.mode.now 0 c.args.at c.args.forward.now.dims (is.forward used)

pub predict-requires-clause-backward : goal.predict-requires-clause-backward
predict-requires-clause-backward c = λ used.
    let is = subst (λ (d : Dims). IsInside c.args.mode.now c.args.at d) c.dims-dims.ensures.value (c.inside.ensures.value.0 c.if-not-inside.false) in
    let same : c.args.backward.now.dims ≡ c.args.forward.now.dims = search rules in
    let there = subst (λ (d : Dims). IsInside c.args.mode.now c.args.at d) (sym same) is in
    frame_holds c.args.mode.now 1 c.args.at c.args.backward.now.dims (there.backward used)

pub predict-requires-clause-place : goal.predict-requires-clause-place
predict-requires-clause-place c =
    let is = subst (λ (d : Dims). IsPlace c.args.at d) c.dims-dims.ensures.value (c.is_place.ensures c.if-not-is_place.false) in
    let same : c.args.backward.now.dims ≡ c.args.forward.now.dims = search rules in
    subst (λ (d : Dims). IsPlace c.args.at d) (sym (read_same c.args.mode.now c.args.forward.now.dims c.args.backward.now.dims same)) is

pub predict-requires-clause-inside : goal.predict-requires-clause-inside
predict-requires-clause-inside c =
    let is = subst (λ (d : Dims). IsInside c.args.mode.now c.args.at d) c.dims-dims.ensures.value (c.inside.ensures.value.0 c.if-not-inside.false) in
    let same : c.args.backward.now.dims ≡ c.args.forward.now.dims = search rules in
    subst (λ (d : Dims). IsInside c.args.mode.now c.args.at d) (sym (read_same c.args.mode.now c.args.forward.now.dims c.args.backward.now.dims same)) is
