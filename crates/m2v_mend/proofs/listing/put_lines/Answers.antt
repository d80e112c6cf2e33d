use Rattle.std.proofs.lemmas.Result.{err_from_is_err_and}
use Rattle.m2v_dec_piece.proofs.PutLaws.{none_put}
use Rattle.m2v_mend.proofs.listing.put_lines.Goals as goal

pub returns-in_err-lines-clause-err : goal.returns-in_err-lines-clause-err
returns-in_err-lines-clause-err g c =
    let p = err_from_is_err_and c.from_residual.result c.from_residual.ensures.1 in
    rw (p.1, p.2) (none_put g.L.Sink.held g.L.Sink.faults c.args.list.now _)
