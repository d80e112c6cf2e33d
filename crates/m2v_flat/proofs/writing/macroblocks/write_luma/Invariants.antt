use Rattle.std.proofs.Common.{◌≡◌, ◌+◌, ◌-◌, ◌*◌, ◌<◌, ◌≤◌, ◌++◌, length}
use Rattle.std.specs.List.{flat_map, range_with_len}
use Rattle.m2v_flat.specs.Flat.{level, predictors, block_text}
use Rattle.m2v_flat.proofs.writing.macroblocks.write_luma.Given as goal

abbrev pub invariant-loop-block : goal.invariant-loop-block
invariant-loop-block l = record {
  first : l.block ≡ 0 → l.before ≡ (predictors l.frame l.row l.column).luma;
  next : 0 < l.block → l.before ≡ level l.frame l.row l.column (l.block - 1);
  written : l.out.written ≡ l.fn.out.written ++ flat_map (block_text l.frame l.row l.column) (range_with_len 0 l.block);
  room : l.out.room + length (flat_map (block_text l.frame l.row l.column) (range_with_len 0 l.block)) ≡ l.fn.out.room;
  enough : 96 ≤ l.out.room + 24 * l.block;
}
