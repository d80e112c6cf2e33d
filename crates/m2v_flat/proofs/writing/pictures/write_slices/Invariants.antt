use Rattle.std.proofs.Common.{◌≡◌, ◌+◌, ◌*◌, ◌%◌, ◌≤◌, ◌++◌, length}
use Rattle.std.specs.List.{flat_map, range_with_len}
use Rattle.m2v_flat.specs.Flat.{slice_unit}
use Rattle.m2v_flat.proofs.writing.pictures.write_slices.Given as goal

abbrev pub invariant-loop-row : goal.invariant-loop-row
invariant-loop-row l = record {
  written : l.out.written ≡ l.fn.out.written ++ flat_map (slice_unit l.quantiser l.frame) (range_with_len 0 l.row);
  room : l.out.room + length (flat_map (slice_unit l.quantiser l.frame) (range_with_len 0 l.row)) ≡ l.fn.out.room;
  edge : length l.out.written % 8 ≡ 0;
  enough : 261504 ≤ l.out.room + 7264 * l.row;
}
