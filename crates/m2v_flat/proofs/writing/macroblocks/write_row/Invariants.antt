use Rattle.std.proofs.Common.{◌≡◌, ◌+◌, ◌*◌, ◌≤◌, ◌++◌, length}
use Rattle.std.specs.List.{flat_map, range_with_len}
use Rattle.m2v_flat.specs.Flat.{predictors, macroblock_text}
use Rattle.m2v_flat.proofs.writing.macroblocks.write_row.Given as goal

abbrev pub invariant-loop-column : goal.invariant-loop-column
invariant-loop-column l = record {
  before : l.before ≡ predictors l.frame l.row l.column;
  written : l.out.written ≡ l.fn.out.written ++ flat_map (macroblock_text l.frame l.row) (range_with_len 0 l.column);
  room : l.out.room + length (flat_map (macroblock_text l.frame l.row) (range_with_len 0 l.column)) ≡ l.fn.out.room;
  enough : 7065 ≤ l.out.room + 157 * l.column;
}
