use Rattle.std.proofs.Common.{◌≡◌, ◌<◌, ◌≤◌, ℕ, length, get_or, pos}
use Rattle.m2v_idct.specs.Inverse.{clip}
use Rattle.m2v_idct.proofs.inverse_dct.clip_all.Given as goal

abbrev pub invariant-loop-k : goal.invariant-loop-k
invariant-loop-k l = record {
  len : length l.block ≡ 64;
  done : (j : ℕ) → j < l.k → get_or l.block j (pos 0) ≡ clip (get_or l.fn.block j (pos 0));
  rest : (j : ℕ) → l.k ≤ j → get_or l.block j (pos 0) ≡ get_or l.fn.block j (pos 0);
}
