use Rattle.std.proofs.Common.{refl}
use Rattle.m2v_pred.proofs.patch.by_lent.Goals as goal

pub returns : goal.returns
returns g c =
    let p = c.args.patch.now in
    record { value = c.by_plane.ensures.value (g.V.RefView.at c.args.view.now p.plane p.lines) (λ k x lt small. refl) }
