use Rattle.std.proofs.Common.{◌≡◌, ◌*◌, ◌≤◌}
use Rattle.std.specs.List.{range_with_len, sum_by}
use Rattle.m2v_rate.specs.Sharing.{income}
use Rattle.m2v_rate.proofs.even.incomes_from.Given as goal

abbrev pub invariant-loop-n : goal.invariant-loop-n
invariant-loop-n l = record {
  value : l.sum ≡ sum_by (income l.group) (range_with_len l.p l.n);
  most : l.sum ≤ 16777215 * l.n;
  some : 4 * l.n ≤ l.sum;
}
