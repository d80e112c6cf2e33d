use Rattle.std.proofs.Common.{◌≡◌, ◌*◌, get_or, pos, neg_ℤ, ◌≤ℤ◌}
use Rattle.m2v_idct.specs.Sums.{sum_below}
use Rattle.m2v_idct.proofs.forward_dct.sum_of.Given as goal

abbrev pub invariant-loop-sample : goal.invariant-loop-sample
invariant-loop-sample l = record {
  value : l.sum ≡ sum_below l.sample-index (λ k. get_or l.f k (pos 0));
  low : neg_ℤ (pos (256 * l.sample-index)) ≤ℤ l.sum;
  high : l.sum ≤ℤ pos (255 * l.sample-index);
}
