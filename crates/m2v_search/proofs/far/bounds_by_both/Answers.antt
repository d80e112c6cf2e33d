use Rattle.std.proofs.Common.{◌≡◌, ◌+◌, ◌≤◌, get_or, ◌∙◌, arith}
use Rattle.std.proofs.lemmas.List.{length-set}
use Rattle.m2v_search.specs.Bounds.{wide_far}
use Rattle.m2v_search.proofs.Slides.{put_next}
use Rattle.m2v_search.proofs.far.bounds_by_both.Goals as goal

pub loop-k-preserved : goal.loop-k-preserved
loop-k-preserved c =
    let upper = c.wide_far in
    let lower = c.wide_far-in-loop-k in
    let sum = upper.result + lower.result in
    record {
      len = length-set c.loop-k.bounds c.loop-k.k sum ∙ c.loop-k.invariant.len;
      value = put_next (λ k n. n ≡ wide_far c.args.parts.upper (λ i. get_or c.args.upper.now i 0) k + wide_far c.args.parts.lower (λ i. get_or c.args.lower.now i 0) k)
          c.loop-k.bounds c.loop-k.k sum (omega (arith, c.loop-k.invariant.len)) c.loop-k.invariant.value (λ i. upper.ensures.value i + lower.ensures.value i);
      most = put_next (λ k n. n ≤ 65280) c.loop-k.bounds c.loop-k.k sum (omega (arith, c.loop-k.invariant.len)) c.loop-k.invariant.most (omega (arith, upper.ensures.most, lower.ensures.most));
    }
