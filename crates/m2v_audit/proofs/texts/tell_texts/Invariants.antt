use Rattle.std.proofs.Common.{◌≡◌, ◌≤◌, ◌+◌, ◌-◌, ◌^◌, false}
use Rattle.m2v_port.specs.Ends.{change, SinkStays}
use Rattle.std.specs.Prelude.{if◌then◌else◌}
use Rattle.m2v_audit.specs.Feeding.{cutting_of, IsFed}
use Rattle.m2v_audit.proofs.AllTexts.{TextsSoFar}
use Rattle.m2v_audit.proofs.texts.tell_texts.Given as goal

abbrev pub invariant-loop-feed : goal.invariant-loop-feed
invariant-loop-feed g l = record {
  so_far : TextsSoFar (change g.S.Source.left g.S.Source.faults l.fn.input l.input) (change g.K.Sink.held g.K.Sink.faults l.fn.output l.output) l.fn.asked l.next l.later l.so_far (cutting_of l.feed);
  begun : (cutting_of l.feed).begun ≡ false;
  still : (cutting_of l.feed).ended ≡ false;
  going : (cutting_of l.feed).failed ≡ false;
  waits : IsFed l.feed (g.S.Source.left l.input);
  output : SinkStays g.K.Sink.ready g.K.Sink.name g.K.Sink.faults l.fn.output l.output;
  input : g.S.Source.faults l.fn.input ≤ g.S.Source.faults l.input;
}

abbrev pub decreases-loop-feed : goal.decreases-loop-feed
decreases-loop-feed g l = (2 ^ 36 + 1 - (cutting_of l.feed).place) + (if l.later then 0 else 1)
