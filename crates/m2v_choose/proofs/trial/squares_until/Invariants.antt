use Rattle.std.proofs.Common.{◌≡◌, ◌≤◌, ◌<◌, ◌*◌, ℕ, cond, length}
use Rattle.std.specs.List.{range_with_len, sum_by}
use Rattle.m2v_recon.specs.Macro.{is_coded}
use Rattle.m2v_recon.specs.Steps.{levels_of}
use Rattle.m2v_choose.specs.Trials.{AreAlike, block_squared, rebuilt_with}
use Rattle.m2v_choose.proofs.trial.squares_until.Given as goal

abbrev pub invariant-loop-block : goal.invariant-loop-block
invariant-loop-block l = record {
  value : l.sum ≡ sum_by (λ b. cond (is_coded l.syntax.pattern b) (block_squared l.syntax.dct_field l.source.at (rebuilt_with l.prediction.at l.syntax (levels_of l.levels) l.kinds) b) 0) (range_with_len 0 l.block);
  len : length l.rebuilt.at ≡ 384;
  low : 8 * l.sum < l.limit;
  done : (b : ℕ) → b < l.block → AreAlike l.syntax.dct_field b l.rebuilt.at (rebuilt_with l.prediction.at l.syntax (levels_of l.levels) l.kinds);
  rest : (b : ℕ) → l.block ≤ b → b < 6 → AreAlike l.syntax.dct_field b l.rebuilt.at l.prediction.at;
  most : l.sum ≤ 8323200 * l.block;
}
