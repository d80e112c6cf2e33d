use Rattle.std.proofs.Common.{sym, subst, List, ℕ}
use Rattle.m2v_plane.specs.declared.planes.Plane.TheVariants.{Y}
use Rattle.m2v_search.specs.Spots.{IsWindow}
use Rattle.m2v_search.proofs.Surveyed.{surveyed}
use Rattle.m2v_search.proofs.vector.survey.Goals as goal

pub returns : goal.returns
returns g c = record {
  value = surveyed c.block_lines-lines.ensures.value c.dims-dims.ensures.value c.area_of-area.ensures.value c.reach.ensures.value
      (subst (λ (w : List ℕ). IsWindow (g.V.RefView.at c.args.view.now Y) c.block_lines-lines.result c.args.at.column c.area_of-area.result w)
      (sym c.put_near_sums.ensures.window) c.samples_around.ensures.value)
      c.put_near_sums.ensures.sums;
}
