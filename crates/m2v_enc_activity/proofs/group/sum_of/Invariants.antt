use Rattle.std.proofs.Common.{◌≡◌, ◌*◌, ◌≤◌, take}
use Rattle.std.specs.Prelude.{sum}
use Rattle.m2v_enc_activity.proofs.group.sum_of.Given as goal

abbrev pub invariant-loop-i : goal.invariant-loop-i
invariant-loop-i l = record {
  value : l.sum ≡ sum (take l.i l.activities);
  most : l.sum ≤ 65536 * l.i;
  some : 256 * l.i ≤ l.sum;
}
