use Rattle.std.proofs.Common.{◌≡◌, ◌≤◌, ◌*◌}
use Rattle.std.specs.Prelude.{min, slice_index, sum_by}
use Rattle.std.specs.List.{range_with_len}
use Rattle.m2v_choose.proofs.squares.least_blocks.Given as goal

abbrev pub invariant-loop-block : goal.invariant-loop-block
invariant-loop-block l = record {
  value : l.sum ≡ sum_by (λ b. min (8 * slice_index l.squares b) l.four) (range_with_len 0 l.block);
  most : l.sum ≤ 66585600 * l.block;
}
