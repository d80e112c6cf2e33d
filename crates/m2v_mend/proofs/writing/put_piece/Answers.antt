use Rattle.std.proofs.Common.{subst, List, ℕ}
use Rattle.std.proofs.lemmas.Result.{IfErr-weaker}
use Rattle.m2v_port.specs.Ends.{change}
use Rattle.m2v_decode.specs.Decoding.{whole_of}
use Rattle.m2v_dec_piece.specs.Putting.{PutStops}
use Rattle.m2v_dec_piece.proofs.PutLaws.{stops_on}
use Rattle.m2v_mend.proofs.Written.{piece_written}
use Rattle.m2v_mend.proofs.writing.put_piece.Goals as goal

pub returns-clause-err : goal.returns-clause-err
returns-clause-err g c =
    IfErr-weaker c.put_zeros.result _ (PutStops (whole_of c.args.piece.now) (change g.K.Sink.held g.K.Sink.faults c.args.output.now c.put_zeros.new.output))
    (λ e why. subst (λ (b : List ℕ). PutStops b (change g.K.Sink.held g.K.Sink.faults c.args.output.now c.put_zeros.new.output) e)
    (piece_written c.args.piece.now c.deref.result.now c.saturating_sub-zeros.result c.len.result c.deref.ensures.value c.saturating_sub-zeros.ensures c.len.ensures)
    (stops_on g.K.Sink.held g.K.Sink.faults _ _ _ _ _ e c.put.ensures.output.counts c.in_ok-put.ensures.grown why))
    c.put_zeros.ensures.err
