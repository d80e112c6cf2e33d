use Rattle.std.proofs.Common.{◌≡◌, ◌≤◌, ◌*◌, ◌^◌}
use Rattle.m2v_dec_batch.specs.Values.{lines_sum}
use Rattle.m2v_dec_batch.proofs.pieces.sum_of.Given as goal

abbrev pub invariant-loop-line : goal.invariant-loop-line
invariant-loop-line l = record {
  value : l.sum ≡ lines_sum l.row l.plane l.line;
  most : l.sum ≤ 2 ^ 20 * l.line;
}
