use Rattle.std.proofs.Common.{◌≡◌, ◌≤◌, ◌<◌, ◌+◌, ◌-◌, ◌*◌, ◌^◌, ℕ, [], All, length, replicate}
use Rattle.std.specs.Prelude.{slice_index_or}
use Rattle.std.specs.List.{range_with_len, sum_by}
use Rattle.m2v_quant.specs.Kinds.{IsLevel}
use Rattle.m2v_quant.specs.declared.kind.Levels.{Levels}
use Rattle.m2v_recon.specs.Steps.{levels_of}
use Rattle.m2v_macro.specs.States.{after}
use Rattle.m2v_macroblock.specs.Texts.{blocks_text}
use Rattle.m2v_choose.specs.Trials.{AreAlike, AreReached, first_by, block_squared, intra_macroblock}
use Rattle.m2v_choose.proofs.IntraParts.{whole_of}
use Rattle.m2v_choose.proofs.intra.sums_until.Given as goal

abbrev pub invariant-loop-block : goal.invariant-loop-block
invariant-loop-block l = record {
  made : AreReached l.task.source.now.at l.transforms;
  next : l.block ≤ (first_by l.syntax.dct_field l.transforms).count;
  bits : l.bits + length (blocks_text l.task.context.now (after l.task.context.now l.task.first l.syntax) (intra_macroblock l.task l.syntax l.kinds) l.block (6 - l.block))
      ≡ length (blocks_text l.task.context.now (after l.task.context.now l.task.first l.syntax) (intra_macroblock l.task l.syntax l.kinds) 0 6) + 4 * (6 - l.block);
  most_bits : l.bits ≤ 24 + 1538 * l.block;
  least_bits : 4 * (6 - l.block) ≤ l.bits;
  squares : l.squares ≡ sum_by (block_squared l.syntax.dct_field l.task.source.now.at (whole_of l.task l.syntax l.kinds)) (range_with_len 0 l.block);
  most_squares : l.squares ≤ 8323200 * l.block;
  low : (2 * l.task.limits.now.q) ^ 2 * l.bits + 8 * l.squares < l.limit;
  levels : (b : ℕ) → b < l.block → slice_index_or (levels_of l.levels) b [] ≡ slice_index_or (intra_macroblock l.task l.syntax l.kinds).levels b [];
  within : All (λ (x : Levels). All IsLevel x.at) l.levels;
  len : length l.levels ≡ 6;
  long : length l.rebuilt.at ≡ 384;
  done : (b : ℕ) → b < l.block → AreAlike l.syntax.dct_field b l.rebuilt.at (whole_of l.task l.syntax l.kinds);
  rest : (b : ℕ) → l.block ≤ b → b < 6 → AreAlike l.syntax.dct_field b l.rebuilt.at (replicate 384 0);
}
