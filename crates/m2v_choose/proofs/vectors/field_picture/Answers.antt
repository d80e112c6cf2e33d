use Rattle.std.proofs.Common.{ap, ◌∙◌}
use Rattle.m2v_plane.specs.declared.planes.Lines.{Lines}
use Rattle.m2v_search.specs.declared.form.SearchForm.TheVariants.{FieldPicture}
use Rattle.m2v_choose.specs.Candidates.{vector_for, sad_for}
use Rattle.m2v_choose.specs.Trials.{decided}
use Rattle.m2v_choose.proofs.Better.{better_is}
use Rattle.m2v_choose.proofs.vectors.field_picture.Goals as goal

pub returns : goal.returns
returns g c = record {
  value = λ r e.
      let d = decided r c.args.task.now in
      let view = g.V.RefView.at c.args.view.now in
      let vector = λ (l : Lines). vector_for d view (FieldPicture l) in
      let sad = λ (l : Lines). sad_for d view (FieldPicture l) in
      better_is d view FieldPicture c.args.bottom c.search-same.result c.search-other.result c.better.result
      (c.search-same.ensures.value r e ∙ ap vector c.field.ensures) (c.search-same.ensures.sad r e ∙ ap sad c.field.ensures)
      (c.search-other.ensures.value r e ∙ ap vector c.other_field.ensures) (c.search-other.ensures.sad r e ∙ ap sad c.other_field.ensures)
      c.better.ensures;
}
