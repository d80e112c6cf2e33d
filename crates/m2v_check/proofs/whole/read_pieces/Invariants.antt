use Rattle.std.proofs.Common.{◌≡◌, ◌≤◌, ◌-◌, ◌^◌, false}
use Rattle.m2v_port.specs.Ends.{change}
use Rattle.m2v_check.proofs.Checking.{SoFar}
use Rattle.m2v_check.proofs.whole.read_pieces.Given as goal

abbrev pub invariant-loop-e : goal.invariant-loop-e
invariant-loop-e g l = record {
  so_far : SoFar (change g.S.Source.left g.S.Source.faults l.fn.input l.input) l.cutter l.reader l.judge;
  cutting : l.cutter.failed ≡ false;
  counted : l.reader.pictures ≤ l.cutter.place;
  judged : l.judge.rules.pictures ≤ l.cutter.place;
  bytes : l.judge.bytes ≤ l.cutter.place;
  most : l.cutter.place ≤ 2 ^ 36;
  input : g.S.Source.faults l.fn.input ≤ g.S.Source.faults l.input;
}

abbrev pub decreases-loop-e : goal.decreases-loop-e
decreases-loop-e g l = 2 ^ 36 - l.cutter.place
