use Rattle.std.proofs.Common.{◌≡◌, ◌≤◌, ◌-◌, ◌^◌, false}
use Rattle.m2v_port.specs.Ends.{change, SinkStays}
use Rattle.m2v_cut.proofs.Onwards.{PuttingOn}
use Rattle.m2v_cut.proofs.copy.put_rest.Given as goal

abbrev pub invariant-loop-e : goal.invariant-loop-e
invariant-loop-e g l = record {
  putting : PuttingOn l.most l.fn.copied l.copied (change g.S.Source.left g.S.Source.faults l.fn.input l.input) (change g.K.Sink.held g.K.Sink.faults l.fn.output l.output) l.fn.cutter l.cutter;
  cutting : l.cutter.failed ≡ false;
  few : l.copied.groups ≤ l.most;
  room : l.copied.bytes ≤ l.cutter.place;
  most : l.cutter.place ≤ 2 ^ 36;
  output : SinkStays g.K.Sink.ready g.K.Sink.name g.K.Sink.faults l.fn.output l.output;
  input : g.S.Source.faults l.fn.input ≤ g.S.Source.faults l.input;
}

abbrev pub decreases-loop-e : goal.decreases-loop-e
decreases-loop-e g l = 2 ^ 36 - l.cutter.place
