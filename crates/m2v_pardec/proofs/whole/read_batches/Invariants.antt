use Rattle.std.proofs.Common.{◌≡◌, ◌≤◌, false, []}
use Rattle.m2v_port.specs.Ends.{SinkStays}
use Rattle.m2v_port.specs.Port.{Rose}
use Rattle.m2v_dec_piece.specs.Cutting.{Cutting}
use Rattle.m2v_pardec.specs.Ahead.{later_of, IsAhead}
use Rattle.m2v_pardec.specs.Taken.{ReadFailed, batches_left}
use Rattle.m2v_pardec.specs.Put.{StandsBy}
use Rattle.m2v_pardec.proofs.whole.read_batches.Given as goal

abbrev pub invariant-loop-stop : goal.invariant-loop-stop
invariant-loop-stop g l = record {
  ahead : IsAhead (later_of l.stop l.stream.cutter) (g.S.Source.left l.fn.input) (g.S.Source.left l.input) (g.K.Sink.held l.fn.output) (g.K.Sink.held l.output) [] l.stream.decoder;
  stands : (c : Cutting) × StandsBy l.stop c l.stream.cutter l.stream.decoder;
  going : l.stream.decoder.failed ≡ false;
  before : l.stream.decoder.ended ≡ false;
  read : ReadFailed l.stop (Rose (g.S.Source.faults l.fn.input) (g.S.Source.faults l.input));
  output : SinkStays g.K.Sink.ready g.K.Sink.name g.K.Sink.faults l.fn.output l.output;
  input : g.S.Source.faults l.fn.input ≤ g.S.Source.faults l.input;
}

abbrev pub decreases-loop-stop : goal.decreases-loop-stop
decreases-loop-stop g l = batches_left l.stop l.stream.cutter
