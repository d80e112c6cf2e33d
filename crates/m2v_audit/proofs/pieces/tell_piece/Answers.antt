use Rattle.std.proofs.lemmas.Result.{err_from_is_err_and}
use Rattle.m2v_audit.proofs.PieceTelling.{placed, refused, told, cut_off}
use Rattle.m2v_audit.proofs.pieces.tell_piece.Goals as goal

pub returns-in_err-notes-clause-err : goal.returns-in_err-notes-clause-err
returns-in_err-notes-clause-err g c =
    let p = err_from_is_err_and c.from_residual.result c.from_residual.ensures.1 in
    rw (p.1, p.2) (λ d f. refused g.K.Sink.held g.K.Sink.faults c.args.reader.now c.args.auditor.now c.args.piece.now c.args.output.now d c.in_err-notes.field-0.0 (c.in_err-notes.ensures.err d f))

pub returns-clause-ok : goal.returns-clause-ok
returns-clause-ok g c =
    told g.K.Sink.held g.K.Sink.faults c.args.reader.now c.args.auditor.now c.args.piece.now c.put_told.result _ _ c.in_ok-notes.notes _ _ _ c.in_ok-notes.ensures.ok c.in_ok-piece.ensures c.put_told.ensures.grown c.put_told.ensures.auditor

pub returns-clause-err : goal.returns-clause-err
returns-clause-err g c =
    cut_off g.K.Sink.held g.K.Sink.faults c.args.reader.now c.args.auditor.now c.args.piece.now c.put_told.result _ _ c.in_ok-notes.notes c.piece.new.self _ _ c.in_ok-notes.ensures.ok c.in_ok-piece.ensures c.put_told.ensures.err

pub piece-requires-2-clause-picture : goal.piece-requires-2-clause-picture
piece-requires-2-clause-picture g c = placed c.args.reader.now _ c.args.piece.now c.in_ok-notes.notes c.requires.piece c.requires.shut c.in_ok-notes.ensures.ok
