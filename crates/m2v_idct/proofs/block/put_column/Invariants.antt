use Rattle.std.proofs.Common.{◌≡◌, ◌<◌, ◌≢◌, ◌+◌, ◌*◌, ℕ, length, get_or, pos}
use Rattle.m2v_idct.proofs.block.put_column.Given as goal

abbrev pub invariant-loop-k : goal.invariant-loop-k
invariant-loop-k l = record {
  len : length l.block ≡ 64;
  column : (k : ℕ) → k < l.k → get_or l.block (8 * k + l.x) (pos 0) ≡ get_or l.results k (pos 0);
  rest : (i : ℕ) → ((k : ℕ) → k < 8 → i ≢ 8 * k + l.x) → get_or l.block i (pos 0) ≡ get_or l.fn.block i (pos 0);
}
