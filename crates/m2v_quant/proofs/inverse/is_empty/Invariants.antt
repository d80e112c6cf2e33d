use Rattle.std.proofs.Common.{◌≡◌, ◌<◌, ◌+◌, ℕ, get_or, pos}
use Rattle.m2v_quant.proofs.inverse.is_empty.Given as goal

abbrev pub invariant-loop-j : goal.invariant-loop-j
invariant-loop-j l = l.bits ≡ 0 → (k : ℕ) → k < l.j → get_or l.levels.at (l.from + k) (pos 0) ≡ pos 0
