use Rattle.std.proofs.Common.{◌≡◌, ◌≤◌, ◌-◌, ◌^◌, false, None}
use Rattle.m2v_port.specs.Ends.{change, SinkStays}
use Rattle.m2v_audit.specs.Feeding.{cutting_of, IsFed}
use Rattle.m2v_audit.proofs.TextSteps.{SoFar}
use Rattle.m2v_audit.proofs.pieces.tell_pieces.Given as goal

abbrev pub invariant-loop-e : goal.invariant-loop-e
invariant-loop-e g l = record {
  so_far : SoFar (change g.S.Source.left g.S.Source.faults l.fn.input l.input) (change g.K.Sink.held g.K.Sink.faults l.fn.output l.output) l.fn.later l.fn.auditor (cutting_of l.fn.feed) l.optional l.auditor l.reader (cutting_of l.feed);
  cutting : (cutting_of l.feed).failed ≡ false;
  waits : IsFed l.feed (g.S.Source.left l.input);
  still : l.reader.ended ≡ false;
  sound : l.reader.failed ≡ false;
  counted : l.reader.pictures ≤ (cutting_of l.feed).place;
  shut : l.reader.state.picture ≡ None;
  bytes : l.auditor.bytes ≤ (cutting_of l.feed).place;
  onward : (cutting_of l.fn.feed).place ≤ (cutting_of l.feed).place;
  output : SinkStays g.K.Sink.ready g.K.Sink.name g.K.Sink.faults l.fn.output l.output;
  input : g.S.Source.faults l.fn.input ≤ g.S.Source.faults l.input;
}

abbrev pub decreases-loop-e : goal.decreases-loop-e
decreases-loop-e g l = 2 ^ 36 - (cutting_of l.feed).place
