use Rattle.std.proofs.Common.{◌≡◌, ◌<◌, ◌+◌, ◌*◌, ℕ, get_or, pos}
use Rattle.std.specs.Int.{bit_at}
use Rattle.m2v_idct.specs.Inverse.{after_rows}
use Rattle.m2v_idct.proofs.inverse_dct.transform_rows.Given as goal

abbrev pub invariant-loop-left : goal.invariant-loop-left
invariant-loop-left l = record {
  below : l.left < 256;
  done : (y x : ℕ) → y < 8 → x < 8 → bit_at l.left y ≡ 0 → get_or l.block (8 * y + x) (pos 0) ≡ after_rows l.fn.block y x;
  rest : (y x : ℕ) → y < 8 → x < 8 → bit_at l.left y ≡ 1 → get_or l.block (8 * y + x) (pos 0) ≡ get_or l.fn.block (8 * y + x) (pos 0);
}

abbrev pub decreases-loop-left : goal.decreases-loop-left
decreases-loop-left l = l.left
