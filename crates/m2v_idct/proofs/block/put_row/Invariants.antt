use Rattle.std.proofs.Common.{◌≡◌, ◌<◌, ◌≢◌, ◌+◌, ◌*◌, ℕ, length, get_or, pos}
use Rattle.m2v_idct.proofs.block.put_row.Given as goal

abbrev pub invariant-loop-k : goal.invariant-loop-k
invariant-loop-k l = record {
  len : length l.rows ≡ 64;
  row : (k : ℕ) → k < l.k → get_or l.rows (8 * l.y + k) (pos 0) ≡ get_or l.results k (pos 0);
  rest : (i : ℕ) → ((k : ℕ) → k < 8 → i ≢ 8 * l.y + k) → get_or l.rows i (pos 0) ≡ get_or l.fn.rows i (pos 0);
}
