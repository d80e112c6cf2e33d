use Rattle.std.proofs.Common.{◌≡◌, false, drop, map}
use Rattle.m2v_port.specs.Ends.{SinkStays}
use Rattle.m2v_pardec.specs.Taken.{piece_of}
use Rattle.m2v_pardec.specs.Put.{PutsTo, CountsTo}
use Rattle.m2v_pardec.proofs.pieces.put_pieces.Given as goal

abbrev pub invariant-loop-i : goal.invariant-loop-i
invariant-loop-i g l = record {
  puts : PutsTo (map piece_of l.fn.pictures) l.fn.decoder (g.K.Sink.held l.fn.output) (map piece_of (drop l.i l.fn.pictures)) l.decoder (g.K.Sink.held l.output);
  counts : CountsTo (map piece_of l.fn.pictures) l.fn.decoder (map piece_of (drop l.i l.fn.pictures)) l.decoder;
  going : l.decoder.failed ≡ false;
  before : l.decoder.ended ≡ false;
  output : SinkStays g.K.Sink.ready g.K.Sink.name g.K.Sink.faults l.fn.output l.output;
}
