use Rattle.std.proofs.Common.{◌≡◌, false, drop, map}
use Rattle.m2v_port.specs.Ends.{SinkStays}
use Rattle.m2v_dec_batch.specs.m2v_dec_picture.Frames.{store_of}
use Rattle.m2v_pardec.specs.Behind.{Tracks}
use Rattle.m2v_pardec.specs.Taken.{AreTold, piece_of}
use Rattle.m2v_pardec.specs.Put.{PutsTo, CountsTo}
use Rattle.m2v_pardec.proofs.PutSteps.{TellsBy}
use Rattle.m2v_pardec.proofs.put.put_rows.Given as goal

abbrev pub invariant-loop-p : goal.invariant-loop-p
invariant-loop-p g l = record {
  puts : PutsTo (map piece_of l.fn.book.pictures) l.fn.decoder (g.K.Sink.held l.fn.output) (map piece_of (drop l.p l.fn.book.pictures)) l.decoder (g.K.Sink.held l.output);
  counts : CountsTo (map piece_of l.fn.book.pictures) l.fn.decoder (map piece_of (drop l.p l.fn.book.pictures)) l.decoder;
  going : l.decoder.failed ≡ false;
  before : l.decoder.ended ≡ false;
  told : AreTold l.decoder.state (drop l.p l.fn.book.pictures) (drop l.p l.fn.after);
  behind : TellsBy l.fn.decoder.state l.fn.book.pictures l.fn.after l.p l.decoder.state;
  tracks : Tracks l.fn.book l.p (store_of l.decoder.frames);
  output : SinkStays g.K.Sink.ready g.K.Sink.name g.K.Sink.faults l.fn.output l.output;
}
