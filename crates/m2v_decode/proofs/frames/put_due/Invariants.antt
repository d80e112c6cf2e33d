use Rattle.std.proofs.Common.{length}
use Rattle.m2v_port.specs.Ends.{change, SinkStays}
use Rattle.m2v_decode.specs.Decoding.{due_of}
use Rattle.m2v_decode.proofs.Putting.{HasPutSome}
use Rattle.m2v_decode.proofs.frames.put_due.Given as goal

abbrev pub invariant-loop-due : goal.invariant-loop-due
invariant-loop-due g l = record {
  put : HasPutSome l.fn.decoder l.decoder (change g.K.Sink.held g.K.Sink.faults l.fn.output l.output);
  output : SinkStays g.K.Sink.ready g.K.Sink.name g.K.Sink.faults l.fn.output l.output;
}

abbrev pub decreases-loop-due : goal.decreases-loop-due
decreases-loop-due g l = length (due_of l.decoder)
