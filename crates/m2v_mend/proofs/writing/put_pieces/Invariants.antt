use Rattle.std.proofs.Common.{take}
use Rattle.m2v_port.specs.Ends.{SinkStays}
use Rattle.m2v_port.specs.Port.{Grows}
use Rattle.m2v_model.specs.Units.{joined}
use Rattle.m2v_mend.specs.Strand.{wholes_of}
use Rattle.m2v_mend.proofs.writing.put_pieces.Given as goal

abbrev pub invariant-loop-piece : goal.invariant-loop-piece
invariant-loop-piece g l = record {
  grown : Grows (g.K.Sink.held l.fn.output) (joined (wholes_of (take l.piece-index l.pieces))) (g.K.Sink.held l.output);
  output : SinkStays g.K.Sink.ready g.K.Sink.name g.K.Sink.faults l.fn.output l.output;
}
