use Rattle.std.proofs.Common.{◌≡◌, ◌≤◌, ◌-◌, ◌^◌, ℕ, List, Option, true, false}
use Rattle.m2v_port.specs.Ends.{SinkStays}
use Rattle.m2v_mend.specs.Making.{IsFoldReady}
use Rattle.m2v_mend.specs.Stretching.{Held, held_by, IsBefore, Comes}
use Rattle.m2v_mend.proofs.whole.stretches.Given as goal

abbrev pub invariant-loop-feed : goal.invariant-loop-feed
invariant-loop-feed g l = record {
  told : (first : Option (List ℕ)) (start : Held) → Comes (IsBefore l.fn.feed l.fn.folding) first (g.S.Source.left l.fn.input) start (held_by g.K.Sink.held g.L.Sink.held l.fn.output l.fn.list)
      → Comes (IsBefore l.feed l.folding) first (g.S.Source.left l.input) start (held_by g.K.Sink.held g.L.Sink.held l.output l.list);
  going : l.feed.failed ≡ false;
  begun : l.feed.begun ≡ true;
  still : l.feed.ended ≡ false;
  ready : IsFoldReady l.folding;
  output : SinkStays g.K.Sink.ready g.K.Sink.name g.K.Sink.faults l.fn.output l.output;
  list : SinkStays g.L.Sink.ready g.L.Sink.name g.L.Sink.faults l.fn.list l.list;
  input : g.S.Source.faults l.fn.input ≤ g.S.Source.faults l.input;
}

abbrev pub decreases-loop-feed : goal.decreases-loop-feed
decreases-loop-feed g l = 2 ^ 36 - l.feed.place
