use Rattle.std.proofs.Common.{◌≡◌, ◌<◌, ℕ, ◌*◌, length}
use Rattle.m2v_idct.specs.Block.{nth}
use Rattle.m2v_idct.specs.Ranges.{IsSample}
use Rattle.m2v_choose.specs.Trials.{difference_at}
use Rattle.m2v_choose.proofs.blocks.differences.Given as goal

abbrev pub invariant-loop-line : goal.invariant-loop-line
invariant-loop-line l = record {
  len : length l.out ≡ 64;
  value : (k : ℕ) → k < 8 * l.line → nth l.out k ≡ difference_at l.source.at l.prediction.at l.dct_field l.block k;
  samples : (k : ℕ) → k < 8 * l.line → IsSample (nth l.out k);
}
