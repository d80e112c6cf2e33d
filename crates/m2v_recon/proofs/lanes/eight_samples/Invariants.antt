use Rattle.std.proofs.Common.{◌≡◌, ℕ, ◌<◌, ◌+◌, length, pos, slice_index}
use Rattle.m2v_idct.specs.Block.{nth}
use Rattle.m2v_recon.proofs.lanes.eight_samples.Given as goal

abbrev pub invariant-loop-j : goal.invariant-loop-j
invariant-loop-j l = record {
  len : length l.line ≡ 8;
  done : (j : ℕ) → j < l.j → nth l.line j ≡ pos (slice_index l.samples (l.from + j));
}
