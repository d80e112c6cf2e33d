use Rattle.std.proofs.Common.{◌≡◌, ℕ, ◌<◌, ◌≤◌, ◌+◌, length, get_or}
use Rattle.m2v_search.specs.Bounds.{wide_far}
use Rattle.m2v_search.proofs.far.bounds_by_both.Given as goal

abbrev pub invariant-loop-k : goal.invariant-loop-k
invariant-loop-k l = record {
  len : length l.bounds ≡ 32;
  value : (k : ℕ) → k < l.k → get_or l.bounds k 0 ≡ wide_far l.parts.upper (λ i. get_or l.upper i 0) k + wide_far l.parts.lower (λ i. get_or l.lower i 0) k;
  most : (k : ℕ) → k < l.k → get_or l.bounds k 0 ≤ 65280;
}
