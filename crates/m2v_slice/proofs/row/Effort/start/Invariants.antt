use Rattle.std.proofs.Common.{◌≡◌, ◌*◌, ◌≤◌, take}
use Rattle.std.specs.Prelude.{sum}
use Rattle.m2v_slice.proofs.row.Effort.start.Given as goal

abbrev pub invariant-loop-i : goal.invariant-loop-i
invariant-loop-i l = record {
  value : l.ahead ≡ sum (take l.i l.activities);
  most : l.ahead ≤ 4294967296 * l.i;
}
