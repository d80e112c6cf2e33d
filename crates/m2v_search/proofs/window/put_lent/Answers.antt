use Rattle.std.proofs.Common.{◌≡◌, ◌+◌, ◌-◌, ◌*◌, get_or, arith, ap, ◌∙◌}
use Rattle.m2v_search.proofs.Windows.{window_put}
use Rattle.m2v_search.proofs.window.put_lent.Goals as goal

pub loop-line-preserved : goal.loop-line-preserved
loop-line-preserved c =
    let a = c.args.area in
    let w = c.args.window.now in
    let n = c.loop-line.line in
    record {
      len = omega arith;
      lines = window_put (λ r x. get_or w.samples.now ((r - a.top) * w.stride + (x - a.left)) 0) a.top a.left a.right n
          c.loop-line.out c.put_line.new.out c.lent_line-samples.result.now (omega arith) (omega arith) (omega arith)
          c.loop-line.invariant.lines
          (λ k lt.
          let there : k ≡ a.left + k - a.left = omega arith in
          c.lent_line-samples.ensures.value k lt ∙ ap (λ i. get_or w.samples.now ((n - a.top) * w.stride + i) 0) there)
          c.put_line.ensures.within c.put_line.ensures.before;
    }

pub returns : goal.returns
returns c =
    let a = c.args.area in
    let w = c.args.window.now in
    record {
      value = λ line k under lt small.
          let back : a.left + k - a.left ≡ k = omega arith in
          c.loop-line.invariant.lines line (a.left + k) under (omega arith) (omega arith) (omega arith)
          ∙ ap (λ i. get_or w.samples.now ((line - a.top) * w.stride + i) 0) back;
    }
