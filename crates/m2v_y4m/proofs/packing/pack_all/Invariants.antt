use Rattle.std.proofs.Common.{◌≤◌}
use Rattle.m2v_port.specs.Ends.{change, SinkStays}
use Rattle.m2v_y4m.specs.Packing.{IsRoom, SoFar}
use Rattle.m2v_y4m.proofs.packing.pack_all.Given as goal

abbrev pub invariant-loop-number : goal.invariant-loop-number
invariant-loop-number g l = record {
  room : IsRoom l.fn.header l.text;
  so_far : SoFar l.fn.header l.number (change g.S.Source.left g.S.Source.faults l.fn.input l.input) (change g.K.Sink.held g.K.Sink.faults l.fn.output l.output);
  output : SinkStays g.K.Sink.ready g.K.Sink.name g.K.Sink.faults l.fn.output l.output;
  input : g.S.Source.faults l.fn.input ≤ g.S.Source.faults l.input;
}
