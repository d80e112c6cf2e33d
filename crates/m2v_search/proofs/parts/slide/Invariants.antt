use Rattle.std.proofs.Common.{◌≡◌, ℕ, ◌<◌, ◌≤◌, ◌+◌, get_or}
use Rattle.m2v_search.proofs.parts.slide.Given as goal

abbrev pub invariant-loop-k : goal.invariant-loop-k
invariant-loop-k l = record {
  before : (k : ℕ) → k < l.k → get_or l.columns k 0 + get_or l.above k 0 ≡ get_or l.fn.columns k 0 + get_or l.below k 0;
  behind : (k : ℕ) → l.k ≤ k → get_or l.columns k 0 ≡ get_or l.fn.columns k 0;
}
