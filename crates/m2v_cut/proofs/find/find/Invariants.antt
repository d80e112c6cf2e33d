use Rattle.std.proofs.Common.{◌≡◌, ◌≤◌, ◌-◌, ◌^◌, false}
use Rattle.m2v_port.specs.Ends.{change}
use Rattle.m2v_cut.proofs.Going.{Finding}
use Rattle.m2v_cut.proofs.find.find.Given as goal

abbrev pub invariant-loop-e : goal.invariant-loop-e
invariant-loop-e g l = record {
  finding : Finding l.from (change g.S.Source.left g.S.Source.faults l.fn.input l.input) l.cutter l.before l.behind;
  less : l.before ≤ l.from;
  cutting : l.cutter.failed ≡ false;
  most : l.cutter.place ≤ 2 ^ 36;
  input : g.S.Source.faults l.fn.input ≤ g.S.Source.faults l.input;
}

abbrev pub decreases-loop-e : goal.decreases-loop-e
decreases-loop-e g l = 2 ^ 36 - l.cutter.place
