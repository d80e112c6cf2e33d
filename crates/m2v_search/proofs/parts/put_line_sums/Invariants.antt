use Rattle.std.proofs.Common.{◌≡◌, ℕ, ◌<◌, ◌+◌, ◌*◌, get_or}
use Rattle.m2v_search.specs.Bounds.{twice}
use Rattle.m2v_search.proofs.parts.put_line_sums.Given as goal

abbrev pub invariant-loop-k : goal.invariant-loop-k
invariant-loop-k l = record {
  value : (k : ℕ) → k < l.k → get_or l.sums (48 * l.line + k) 0 ≡ twice 1 (λ i. get_or l.pairs i 0) k;
  before : (i : ℕ) → i < 48 * l.line → get_or l.sums i 0 ≡ get_or l.fn.sums i 0;
}
