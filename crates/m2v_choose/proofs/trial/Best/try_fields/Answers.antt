use Rattle.std.proofs.Common.{◌≢◌, refl, sym, ◌∙◌, subst, inl, inr, arith}
use Rattle.m2v_plane.specs.Sizes.{IsSize}
use Rattle.m2v_choose.specs.Decisions.{has_dct_type}
use Rattle.m2v_choose.specs.Candidates.{field_direction, predictions_by}
use Rattle.m2v_choose.specs.Trials.{decided, references_of, direction_by}
use Rattle.m2v_choose.proofs.Motions.{fields_can, frame_of, fields_tried, nothing_tried}
use Rattle.m2v_choose.proofs.trial.Best.try_fields.Goals as goal

pub try_directions-requires-clause-can : goal.try_directions-requires-clause-can
try_directions-requires-clause-can g c = λ hf hb goes.
    let r = references_of (g.V.RefView.size c.args.forward.now) (g.V.RefView.at c.args.forward.now) (g.V.RefView.at c.args.backward.now) in
    let t = c.args.task.now in
    let size = subst IsSize c.dims-size.ensures.value c.dims-size.ensures.size in
    let moves : t.context.now.kind ≢ 1 = λ one. elim c.requires.kind [ inl two ↦ omega (arith, one, two) | inr three ↦ omega (arith, one, three) ] in
    let has = sym c.has_dct_type.ensures ∙ c.if-has_dct_type.true in
    fields_can t r (g.V.RefView.Holds c.args.forward.now) (g.V.RefView.Holds c.args.backward.now) c.requires.task (g.V.RefView.size c.args.backward.now) c.requires.references size moves
    hf hb (direction_by c.field_direction-ahead.result) (direction_by c.field_backward-behind.result) has (frame_of t.context.now has) goes
    (c.field_direction-ahead.ensures.value r refl) (λ three. c.field_backward-behind.ensures.value three r (sym (c.requires.references.sizes three)))

pub returns-then-has_dct_type : goal.returns-then-has_dct_type
returns-then-has_dct_type g c = record {
  tried = λ rated.
      let r = references_of (g.V.RefView.size c.args.forward.now) (g.V.RefView.at c.args.forward.now) (g.V.RefView.at c.args.backward.now) in
      let d = decided r c.args.task.now in
      let f = field_direction d d.forward in
      let b = field_direction d d.backward in
      fields_tried d (has_dct_type d) (predictions_by d 1 f b) c.args.self.now c.try_directions.new.self (sym c.has_dct_type.ensures ∙ c.if-has_dct_type.true)
      (c.try_directions.ensures.tried f b (c.field_direction-ahead.ensures.value r refl) (λ three. c.field_backward-behind.ensures.value three r (sym (c.requires.references.sizes three))) rated);
}

pub returns-else-has_dct_type : goal.returns-else-has_dct_type
returns-else-has_dct_type g c = record {
  tried = λ rated.
      let r = references_of (g.V.RefView.size c.args.forward.now) (g.V.RefView.at c.args.forward.now) (g.V.RefView.at c.args.backward.now) in
      let d = decided r c.args.task.now in
      nothing_tried d (has_dct_type d) (predictions_by d 1 (field_direction d d.forward) (field_direction d d.backward)) c.args.self.now (sym c.has_dct_type.ensures ∙ c.if-has_dct_type.false) rated;
}
