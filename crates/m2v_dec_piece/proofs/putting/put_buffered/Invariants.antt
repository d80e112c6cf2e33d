use Rattle.std.proofs.Common.{◌-◌, ◌≤◌, replicate}
use Rattle.m2v_port.specs.Ends.{SinkStays}
use Rattle.m2v_port.specs.Port.{Grows}
use Rattle.m2v_dec_piece.proofs.putting.put_buffered.Given as goal

abbrev pub invariant-loop-left : goal.invariant-loop-left
invariant-loop-left g l = record {
  less : l.left ≤ l.zeros;
  grown : Grows (g.K.Sink.held l.fn.output) (replicate (l.zeros - l.left) 0) (g.K.Sink.held l.output);
  output : SinkStays g.K.Sink.ready g.K.Sink.name g.K.Sink.faults l.fn.output l.output;
}

abbrev pub decreases-loop-left : goal.decreases-loop-left
decreases-loop-left g l = l.left
