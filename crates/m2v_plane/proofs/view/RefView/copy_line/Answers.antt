use Rattle.std.proofs.Common.{arith, length}
use Rattle.m2v_plane.proofs.Places.{line_is}
use Rattle.m2v_plane.proofs.view.RefView.copy_line.Goals as goal

pub returns : goal.returns
returns g c =
    record {
      value = line_is c.loop-i.out (g.Self.RefView.at c.args.self.now c.args.plane c.args.lines c.args.line) c.args.column (length c.args.out.now)
          c.loop-i.auto.out (λ k lt. c.loop-i.invariant k (omega arith));
    }
