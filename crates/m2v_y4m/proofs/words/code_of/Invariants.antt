use Rattle.std.proofs.Common.{◌≡◌, ℕ, ◌<◌, false}
use Rattle.m2v_y4m.specs.Header.{is_rate}
use Rattle.m2v_y4m.proofs.words.code_of.Given as goal

abbrev pub invariant-loop-at : goal.invariant-loop-at
invariant-loop-at l = (k : ℕ) → k < l.at → is_rate l.fn.frames l.fn.seconds k ≡ false
