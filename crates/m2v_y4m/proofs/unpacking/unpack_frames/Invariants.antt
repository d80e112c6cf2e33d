use Rattle.std.proofs.Common.{◌≡◌, ◌≤◌, length, None}
use Rattle.m2v_port.specs.Ends.{change, SinkStays}
use Rattle.m2v_y4m.specs.Sources.{spot}
use Rattle.m2v_y4m.specs.Reading.{GivenSoFar}
use Rattle.m2v_y4m.proofs.unpacking.unpack_frames.Given as goal

abbrev pub invariant-loop-number : goal.invariant-loop-number
invariant-loop-number g l = record {
  frame : length l.frame ≡ length l.fn.frame;
  header : l.reader.header ≡ l.fn.reader.header;
  unbroken : l.reader.fault ≡ None;
  given : GivenSoFar l.fn.reader.header l.number (spot l.fn.reader (g.S.Source.left l.fn.input)) (spot l.reader (g.S.Source.left l.input)) (change g.K.Sink.held g.K.Sink.faults l.fn.output l.output);
  output : SinkStays g.K.Sink.ready g.K.Sink.name g.K.Sink.faults l.fn.output l.output;
  input : g.S.Source.faults l.fn.input ≤ g.S.Source.faults l.input;
}
