use Rattle.std.proofs.Common.{◌+◌, ◌*◌, ◌/◌, ◌%◌, arith}
use Rattle.m2v_pred.proofs.Lines.{window_at}
use Rattle.m2v_pred.proofs.patch.predict_patch.Goals as goal

pub returns-in-Some : goal.returns-in-Some
returns-in-Some g c =
    let p = c.args.patch.now in
    let w = c.in-Some.window in
    record {
      value = c.by_window.ensures.value (g.V.RefView.at c.args.view.now p.plane p.lines)
          (λ k x lt small. window_at w.samples.now (g.V.RefView.at c.args.view.now p.plane p.lines (p.y / 2 + k)) (k * w.stride) (p.x / 2)
          (c.side.result + p.x % 2) x (c.in-Some.ensures.value k lt) (omega (arith, small, c.side.ensures.value)));
    }
