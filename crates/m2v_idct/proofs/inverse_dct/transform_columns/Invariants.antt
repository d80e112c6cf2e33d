use Rattle.std.proofs.Common.{◌≡◌, ◌<◌, ◌≤◌, ◌+◌, ◌*◌, ℕ, get_or, pos}
use Rattle.m2v_idct.specs.Block.{at}
use Rattle.m2v_idct.specs.Inverse.{column}
use Rattle.m2v_idct.proofs.inverse_dct.transform_columns.Given as goal

abbrev pub invariant-loop-x : goal.invariant-loop-x
invariant-loop-x l = record {
  done : (y x : ℕ) → y < 8 → x < l.x → get_or l.block (8 * y + x) (pos 0) ≡ get_or (column (λ k. at l.fn.block k x)) y (pos 0);
  rest : (y x : ℕ) → y < 8 → l.x ≤ x → x < 8 → get_or l.block (8 * y + x) (pos 0) ≡ get_or l.fn.block (8 * y + x) (pos 0);
}
