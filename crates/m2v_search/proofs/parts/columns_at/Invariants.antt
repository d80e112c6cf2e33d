use Rattle.std.proofs.Common.{◌≡◌, ℕ, ◌<◌, ◌≤◌, ◌+◌, ◌*◌, length, get_or}
use Rattle.m2v_search.specs.Bounds.{column_sum}
use Rattle.m2v_search.proofs.parts.columns_at.Given as goal

abbrev pub invariant-loop-k : goal.invariant-loop-k
invariant-loop-k l = record {
  len : length l.columns ≡ 56;
  value : (k : ℕ) → k < l.k → get_or l.columns k 0 ≡ column_sum 48 (λ i. get_or l.window i 0) (48 * l.line + k);
  rest : (k : ℕ) → 48 ≤ k → get_or l.columns k 0 ≡ 0;
}
