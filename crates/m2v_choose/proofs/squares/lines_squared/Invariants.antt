use Rattle.std.proofs.Common.{◌≡◌, ◌≤◌, ◌+◌, ◌*◌, length}
use Rattle.std.specs.List.{range_with_len, sum_by}
use Rattle.std.specs.Simd.Lanes.{sum_l}
use Rattle.m2v_choose.specs.Choice.{square_at}
use Rattle.m2v_choose.specs.Decisions.{block_place}
use Rattle.m2v_choose.proofs.squares.lines_squared.Given as goal

abbrev pub invariant-loop-line : goal.invariant-loop-line
invariant-loop-line l = record {
  len : length l.sums ≡ 8;
  value : sum_l l.sums ≡ sum_by (λ line. sum_by (λ c. square_at l.source.at l.samples.at (block_place l.dct_field l.block (8 * line) + c)) (range_with_len 0 8)) (range_with_len 0 l.line);
  most : sum_l l.sums ≤ 520200 * l.line;
}
