use Rattle.std.proofs.Common.{◌≡◌, ◌+◌, ◌*◌, ◌≤◌}
use Rattle.std.specs.List.{range_with_len, sum_by}
use Rattle.m2v_rate.specs.Sharing.{lack}
use Rattle.m2v_rate.proofs.even.reserve.Given as goal

abbrev pub invariant-loop-n : goal.invariant-loop-n
invariant-loop-n l = record {
  value : l.sum ≡ sum_by (lack l.group l.p) (range_with_len (l.p + 1) l.n);
  most : l.sum ≤ 17179869183 * l.n;
}
