use Rattle.std.proofs.Common.{◌≡◌, ℕ, ◌<◌, ◌≤◌, ◌+◌, length, get_or}
use Rattle.m2v_search.specs.Bounds.{column_sum}
use Rattle.m2v_search.proofs.parts.block_columns.Given as goal

abbrev pub invariant-loop-k : goal.invariant-loop-k
invariant-loop-k l = record {
  len : length l.columns ≡ 16;
  value : (k : ℕ) → k < l.k → get_or l.columns k 0 ≡ column_sum 16 (λ i. get_or l.block i 0) (l.from + k);
  most : (k : ℕ) → k < l.k → get_or l.columns k 0 ≤ 2040;
}
