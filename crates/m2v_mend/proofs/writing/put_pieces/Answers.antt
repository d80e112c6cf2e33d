use Rattle.std.proofs.lemmas.Result.{err_from_is_err_and}
use Rattle.m2v_port.proofs.Runs.{stays_here, stays_on, grows_by_nothing}
use Rattle.m2v_mend.proofs.Written.{pieces_on, pieces_stop, pieces_all}
use Rattle.m2v_mend.proofs.writing.put_pieces.Goals as goal

pub loop-piece-init : goal.loop-piece-init
loop-piece-init g c = record { grown = grows_by_nothing _; output = stays_here c.requires.output }

pub returns-in_err-put_piece-clause-err : goal.returns-in_err-put_piece-clause-err
returns-in_err-put_piece-clause-err g c =
    let p = err_from_is_err_and c.from_residual.result c.from_residual.ensures.1 in
    let inv = c.loop-piece.invariant in
    rw (p.1, p.2) (pieces_stop g.K.Sink.held g.K.Sink.faults _ _ _ c.args.pieces.now c.loop-piece.piece-index c.piece-item.result c.in_err-put_piece.field-0.0 c.loop-piece-test.true c.piece-item.is inv.output.counts inv.grown c.in_err-put_piece.ensures.err)

pub loop-piece-preserved : goal.loop-piece-preserved
loop-piece-preserved g c =
    let inv = c.loop-piece.invariant in
    record {
      grown = pieces_on g.K.Sink.held g.K.Sink.faults _ _ _ c.args.pieces.now c.loop-piece.piece-index c.piece-item.result c.loop-piece-test.true c.piece-item.is inv.grown c.in_ok-put_piece.ensures.grown;
      output = stays_on inv.output c.put_piece.ensures.output;
    }

pub returns-clause-grown : goal.returns-clause-grown
returns-clause-grown g c = pieces_all g.K.Sink.held g.K.Sink.faults _ _ c.args.pieces.now c.loop-piece.piece-index c.loop-piece-test.false c.loop-piece.invariant.grown
