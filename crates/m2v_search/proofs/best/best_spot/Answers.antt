use Rattle.std.proofs.Common.{◌+◌, ◌-◌, ◌*◌, ◌∙◌, arith, ap, sym, subst}
use Rattle.std.specs.Prelude.{slice_index}
use Rattle.m2v_search.specs.declared.spot.Span.{Span}
use Rattle.m2v_search.specs.Bounds.{AreSumsFor}
use Rattle.m2v_search.specs.Spots.{spot_sad, half_spot, IsNear}
use Rattle.m2v_search.proofs.Near.{whole_found, whole_near}
use Rattle.m2v_search.proofs.best.best_spot.Goals as goal

pub best_by_bounds-best-requires-clause-sums : goal.best_by_bounds-best-requires-clause-sums
best_by_bounds-best-requires-clause-sums c =
    subst (λ (x : Span). AreSumsFor c.args.count (slice_index c.args.around.now.window) x.first (x.end + c.args.count - 8) (slice_index c.args.around.now.sums))
    (sym c.within_reach-lines.ensures.value) c.requires.sums

pub best_by_bounds-best-requires-clause-places : goal.best_by_bounds-best-requires-clause-places
best_by_bounds-best-requires-clause-places c = record {
  some_lines = omega (arith, c.within_reach-lines.ensures.least, c.within_reach-lines.ensures.most);
  some_columns = omega (arith, c.within_reach-columns.ensures.least, c.within_reach-columns.ensures.most);
  inside_lines = omega (arith, c.within_reach-lines.ensures.far, c.requires.down);
  inside_columns = omega (arith, c.within_reach-columns.ensures.far, c.requires.across);
}

pub best_half-requires-clause-near : goal.best_half-requires-clause-near
best_half-requires-clause-near c =
    let cost = spot_sad c.args.block.now c.args.count c.args.around.now.window in
    let is = whole_found cost c.args.count c.args.area c.args.across c.args.down _ _ _ c.within_reach-lines.ensures.value c.within_reach-columns.ensures.value c.best_by_bounds-best.ensures.spot in
    subst (IsNear c.args.count c.args.area (2 * c.args.across) (2 * c.args.down)) (sym is)
    (whole_near cost c.args.count c.args.area c.args.across c.args.down c.requires.across c.requires.down c.requires.top c.requires.bottom c.requires.left c.requires.right (omega arith))

pub returns-clause-spot : goal.returns-clause-spot
returns-clause-spot c =
    let cost = spot_sad c.args.block.now c.args.count c.args.around.now.window in
    c.best_half.ensures.spot
    ∙ ap (half_spot cost c.args.count c.args.area)
    (whole_found cost c.args.count c.args.area c.args.across c.args.down _ _ _ c.within_reach-lines.ensures.value c.within_reach-columns.ensures.value c.best_by_bounds-best.ensures.spot)
