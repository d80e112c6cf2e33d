use Rattle.std.proofs.Common.{◌≡◌, ◌<◌, ◌+◌, ℕ, get_or, pos}
use Rattle.m2v_idct.proofs.inverse_dct.are_zero.Given as goal

abbrev pub invariant-loop-j : goal.invariant-loop-j
invariant-loop-j l = l.bits ≡ 0 → (i : ℕ) → i < l.j → (get_or l.block (1 + i) (pos 0) ≡ pos 0) × (get_or l.block (56 + i) (pos 0) ≡ pos 0)
