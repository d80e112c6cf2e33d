use Rattle.std.proofs.Common.{◌≡◌, ◌+◌, ◌≤◌, get_or, ◌∙◌, arith}
use Rattle.std.proofs.lemmas.List.{length-set}
use Rattle.m2v_search.specs.Bounds.{half_far}
use Rattle.m2v_search.proofs.Slides.{put_next}
use Rattle.m2v_search.proofs.far.bounds_by_one.Goals as goal

pub loop-k-preserved : goal.loop-k-preserved
unfolding half_far
loop-k-preserved c =
    let left = c.pair_far in
    let right = c.pair_far-in-loop-k in
    let sum = left.result + right.result in
    record {
      len = length-set c.loop-k.bounds c.loop-k.k sum ∙ c.loop-k.invariant.len;
      value = put_next (λ k n. n ≡ half_far c.args.parts (λ i. get_or c.args.sums.now i 0) k)
          c.loop-k.bounds c.loop-k.k sum (omega (arith, c.loop-k.invariant.len)) c.loop-k.invariant.value (λ i. left.ensures.value i + right.ensures.value i);
      most = put_next (λ k n. n ≤ 65280) c.loop-k.bounds c.loop-k.k sum (omega (arith, c.loop-k.invariant.len)) c.loop-k.invariant.most (omega (arith, left.ensures.most, right.ensures.most));
    }
