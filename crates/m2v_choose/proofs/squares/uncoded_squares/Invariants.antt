use Rattle.std.proofs.Common.{◌≡◌, ◌≤◌, ◌*◌, cond}
use Rattle.std.specs.Prelude.{slice_index}
use Rattle.std.specs.List.{range_with_len, sum_by}
use Rattle.m2v_recon.specs.Macro.{is_coded}
use Rattle.m2v_choose.proofs.squares.uncoded_squares.Given as goal

abbrev pub invariant-loop-block : goal.invariant-loop-block
invariant-loop-block l = record {
  value : l.sum ≡ sum_by (λ b. cond (is_coded l.pattern b) 0 (slice_index l.squares b)) (range_with_len 0 l.block);
  most : l.sum ≤ 8323200 * l.block;
}
