use Rattle.std.proofs.Common.{◌<◌, ◌≤◌, ℕ}
use Rattle.std.specs.Prelude.{unsigned_abs}
use Rattle.m2v_idct.specs.Block.{nth}
use Rattle.m2v_choose.proofs.blocks.largest.Given as goal

abbrev pub invariant-loop-k : goal.invariant-loop-k
invariant-loop-k l = (j : ℕ) → j < l.k → unsigned_abs (nth l.transform j) ≤ l.most
