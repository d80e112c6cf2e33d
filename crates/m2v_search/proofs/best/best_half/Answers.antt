use Rattle.std.proofs.Common.{◌≡◌, ◌+◌, ◌∙◌, arith, sym, subst}
use Rattle.m2v_search.specs.Least.{least}
use Rattle.m2v_search.specs.Spots.{spots, spot_sad, half_spot, IsNear}
use Rattle.m2v_search.proofs.Near.{half_near}
use Rattle.m2v_search.proofs.best.best_half.Goals as goal

pub returns : goal.returns
unfolding half_spot
returns c =
    let cost = spot_sad c.args.block.now c.args.count c.args.window.now in
    let is : c.best_of.result.spot ≡ half_spot cost c.args.count c.args.area c.args.best.spot =
    c.best_of.ensures.spot ∙ (λ i. least cost c.args.best.spot (spots 1 (c.within_reach-lines.ensures.value i) (c.within_reach-columns.ensures.value i))) in
    record {
      spot = is;
      sad = c.best_of.ensures.sad;
      near = subst (IsNear c.args.count c.args.area (c.args.across + 1) (c.args.down + 1)) (sym is)
          (half_near cost c.args.count c.args.area c.args.across c.args.down c.args.best.spot (omega arith) (omega arith) c.requires.near);
    }
