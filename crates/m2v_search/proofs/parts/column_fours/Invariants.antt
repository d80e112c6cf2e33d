use Rattle.std.proofs.Common.{◌≡◌, ℕ, ◌<◌, ◌≤◌, length, get_or}
use Rattle.m2v_search.specs.Bounds.{twice}
use Rattle.m2v_search.proofs.parts.column_fours.Given as goal

abbrev pub invariant-loop-k : goal.invariant-loop-k
invariant-loop-k l = record {
  len : length l.fours ≡ 56;
  value : (k : ℕ) → k < l.k → get_or l.fours k 0 ≡ twice 1 (λ i. get_or l.pairs i 0) k;
  most : (k : ℕ) → get_or l.fours k 0 ≤ 8160;
}
