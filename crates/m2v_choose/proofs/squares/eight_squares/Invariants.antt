use Rattle.std.proofs.Common.{◌≡◌, ◌<◌, ◌≤◌, ◌+◌, ℕ, length, get_or}
use Rattle.m2v_choose.specs.Choice.{square_at}
use Rattle.m2v_choose.proofs.squares.eight_squares.Given as goal

abbrev pub invariant-loop-c : goal.invariant-loop-c
invariant-loop-c l = record {
  len : length l.squares ≡ 8;
  value : (k : ℕ) → k < l.c → get_or l.squares k 0 ≡ square_at l.source.at l.samples.at (l.from + k);
  most : (k : ℕ) → k < l.c → get_or l.squares k 0 ≤ 65025;
}
