use Rattle.m2v_bits.specs.Bits.{packed}
use Rattle.m2v_port.specs.Ends.{SinkStays}
use Rattle.m2v_port.specs.Port.{Grows}
use Rattle.m2v_encode.specs.Groups.{slices_text}
use Rattle.m2v_encode.proofs.done.DoneGroup.put_slices.Given as goal

abbrev pub invariant-loop-r : goal.invariant-loop-r
invariant-loop-r g l = record {
  grown : Grows (g.K.Sink.held l.fn.output) (packed (slices_text l.self l.p l.r)) (g.K.Sink.held l.output);
  output : SinkStays g.K.Sink.ready g.K.Sink.name g.K.Sink.faults l.fn.output l.output;
}
