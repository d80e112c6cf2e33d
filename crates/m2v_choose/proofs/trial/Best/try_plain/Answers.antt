use Rattle.std.proofs.Common.{◌≢◌, refl, sym, subst, inl, inr, arith}
use Rattle.m2v_plane.specs.Sizes.{IsSize}
use Rattle.std.specs.List.{flat_map}
use Rattle.m2v_choose.specs.Candidates.{plain_direction, predictions_by, by_prediction}
use Rattle.m2v_choose.specs.Trials.{decided, references_of, direction_by, Tried}
use Rattle.m2v_choose.proofs.Motions.{plain_can, plain_single}
use Rattle.m2v_choose.proofs.trial.Best.try_plain.Goals as goal

pub try_directions-requires-clause-can : goal.try_directions-requires-clause-can
try_directions-requires-clause-can g c = λ hf hb goes.
    let r = references_of (g.V.RefView.size c.args.forward.now) (g.V.RefView.at c.args.forward.now) (g.V.RefView.at c.args.backward.now) in
    let t = c.args.task.now in
    let size = subst IsSize c.dims-size.ensures.value c.dims-size.ensures.size in
    let moves : t.context.now.kind ≢ 1 = λ one. elim c.requires.kind [ inl two ↦ omega (arith, one, two) | inr three ↦ omega (arith, one, three) ] in
    plain_can t r (g.V.RefView.Holds c.args.forward.now) (g.V.RefView.Holds c.args.backward.now) c.requires.task (g.V.RefView.size c.args.backward.now) c.requires.references size moves
    c.plain_form-form.result hf hb (direction_by c.plain_direction-ahead.result) (direction_by c.plain_backward-behind.result) c.plain_form-form.ensures goes
    (c.plain_direction-ahead.ensures.value r refl) (λ three. c.plain_backward-behind.ensures.value three r (sym (c.requires.references.sizes three)))

pub try_directions-requires-clause-form : goal.try_directions-requires-clause-form
try_directions-requires-clause-form g c = plain_single c.args.task.now.context.now c.plain_form-form.result c.plain_form-form.ensures

pub returns : goal.returns
returns g c = record {
  tried = λ rated.
      let r = references_of (g.V.RefView.size c.args.forward.now) (g.V.RefView.at c.args.forward.now) (g.V.RefView.at c.args.backward.now) in
      let d = decided r c.args.task.now in
      let f = plain_direction d d.forward in
      let b = plain_direction d d.backward in
      subst (λ n. Tried d c.args.self.now c.try_directions.new.self (flat_map (by_prediction d) (predictions_by d n f b))) c.plain_form-form.ensures
      (c.try_directions.ensures.tried f b (c.plain_direction-ahead.ensures.value r refl) (λ three. c.plain_backward-behind.ensures.value three r (sym (c.requires.references.sizes three))) rated);
}
