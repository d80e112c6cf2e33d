use Rattle.std.proofs.Common.{◌≡◌, ℕ, ◌<◌, ◌≤◌, ◌+◌, ◌*◌, get_or}
use Rattle.m2v_search.specs.Bounds.{column_sum, AreWideSums}
use Rattle.m2v_search.proofs.sliding.put_wide_sums.Given as goal

abbrev pub invariant-loop-line : goal.invariant-loop-line
invariant-loop-line l = record {
  columns : (k : ℕ) → k < 48 → get_or l.columns k 0 ≡ column_sum 48 (λ i. get_or l.window i 0) (48 * l.line + k);
  rest : (k : ℕ) → 48 ≤ k → get_or l.columns k 0 ≡ 0;
  sums : AreWideSums (λ i. get_or l.window i 0) l.first l.line (λ i. get_or l.sums i 0);
}
