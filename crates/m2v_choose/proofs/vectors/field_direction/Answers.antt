use Rattle.std.proofs.Common.{true, false}
use Rattle.m2v_plane.specs.declared.planes.Lines.TheVariants.{Top, Bottom}
use Rattle.m2v_search.specs.declared.form.SearchForm.TheVariants.{FieldLines}
use Rattle.m2v_choose.specs.Candidates.{field_direction}
use Rattle.m2v_choose.specs.Trials.{decided}
use Rattle.m2v_choose.proofs.Better.{better_is, vector_is, sad_is}
use Rattle.m2v_choose.proofs.vectors.field_direction.Goals as goal

pub returns : goal.returns
unfolding field_direction
returns g c = record {
  value = λ r e.
      let t = c.args.task.now in
      let d = decided r t in
      let view = g.V.RefView.at c.args.view.now in
      let size = g.V.RefView.size c.args.view.now in
      let found = c.best_field_vectors_in-found.result in
      let best = c.best_field_vectors_in-found.ensures in
      let first = better_is d view (FieldLines Top) false found.top_in_top found.top_in_bottom c.better.result
      (vector_is r t view size c.place_of.result (FieldLines Top Top) found.top_in_top e c.place_of.ensures best.top_in_top)
      (sad_is r t view size c.place_of.result (FieldLines Top Top) found.top_in_top e c.place_of.ensures best.top_in_top)
      (vector_is r t view size c.place_of.result (FieldLines Top Bottom) found.top_in_bottom e c.place_of.ensures best.top_in_bottom)
      (sad_is r t view size c.place_of.result (FieldLines Top Bottom) found.top_in_bottom e c.place_of.ensures best.top_in_bottom)
      c.better.ensures in
      let second = better_is d view (FieldLines Bottom) true found.bottom_in_bottom found.bottom_in_top c.better-2.result
      (vector_is r t view size c.place_of.result (FieldLines Bottom Bottom) found.bottom_in_bottom e c.place_of.ensures best.bottom_in_bottom)
      (sad_is r t view size c.place_of.result (FieldLines Bottom Bottom) found.bottom_in_bottom e c.place_of.ensures best.bottom_in_bottom)
      (vector_is r t view size c.place_of.result (FieldLines Bottom Top) found.bottom_in_top e c.place_of.ensures best.bottom_in_top)
      (sad_is r t view size c.place_of.result (FieldLines Bottom Top) found.bottom_in_top e c.place_of.ensures best.bottom_in_top)
      c.better-2.ensures in
      λ i. record { first = first i; second = second i };
}
