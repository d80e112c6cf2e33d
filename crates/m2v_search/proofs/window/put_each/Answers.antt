use Rattle.std.proofs.Common.{◌≡◌, ◌+◌, ◌-◌, arith, ap, ◌∙◌}
use Rattle.m2v_plane.specs.declared.planes.Plane.TheVariants.{Y}
use Rattle.m2v_search.proofs.Windows.{window_put}
use Rattle.m2v_search.proofs.window.put_each.Goals as goal

pub loop-line-preserved : goal.loop-line-preserved
loop-line-preserved g c =
    let a = c.args.area in
    let n = c.loop-line.line in
    let at = g.V.RefView.at c.args.view.now Y c.args.lines in
    record {
      len = omega arith;
      lines = window_put (λ r x. at (c.args.number + (r - a.top)) (c.args.across + (x - a.left))) a.top a.left a.right n
          c.loop-line.out c.put_line.new.out c.reference_line-samples.result.now (omega arith) (omega arith) (omega arith)
          c.loop-line.invariant.lines
          (λ k lt.
          let there : c.args.across + k ≡ c.args.across + (a.left + k - a.left) = omega arith in
          c.reference_line-samples.ensures.value k lt ∙ ap (at (c.args.number + (n - a.top))) there)
          c.put_line.ensures.within c.put_line.ensures.before;
    }

pub returns : goal.returns
returns g c =
    let a = c.args.area in
    let at = g.V.RefView.at c.args.view.now Y c.args.lines in
    record {
      value = λ line k under lt small.
          let back : c.args.across + (a.left + k - a.left) ≡ c.args.across + k = omega arith in
          c.loop-line.invariant.lines line (a.left + k) under (omega arith) (omega arith) (omega arith)
          ∙ ap (at (c.args.number + (line - a.top))) back;
    }
