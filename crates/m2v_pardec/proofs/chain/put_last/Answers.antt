use Rattle.std.proofs.Common.{map}
use Rattle.std.specs.Prelude.{◌++◌}
use Rattle.std.proofs.lemmas.Result.{err_from_is_err_and, IfErr-weaker}
use Rattle.m2v_port.specs.Port.{Rose}
use Rattle.m2v_port.proofs.Runs.{rose_since}
use Rattle.m2v_dec_piece.proofs.Steps.{both_ok}
use Rattle.m2v_pardec.specs.Taken.{piece_of, pieces_of}
use Rattle.m2v_pardec.specs.Put.{StopsBy}
use Rattle.m2v_pardec.proofs.PutLaws.{front_next, behind_next, stops_first, stops_next, puts_both}
use Rattle.m2v_pardec.proofs.chain.put_last.Goals as goal

pub put_worked-requires-clause-next : goal.put_worked-requires-clause-next
put_worked-requires-clause-next g c = front_next (map piece_of c.args.worked.now.book.pictures) (pieces_of c.args.next.now) c.args.decoder.now c.requires.next

pub returns-in_err-put_worked-clause-err : goal.returns-in_err-put_worked-clause-err
returns-in_err-put_worked-clause-err g c =
    let p = err_from_is_err_and c.from_residual.result c.from_residual.ensures.1 in
    rw (p.1, p.2) (stops_first _ (map piece_of c.args.worked.now.book.pictures) (pieces_of c.args.next.now) c.args.decoder.now (g.K.Sink.held c.args.output.now) (g.K.Sink.held c.put_worked.new.output) c.in_err-put_worked.field-0.0 c.in_err-put_worked.ensures.err)

pub put_taken-requires-clause-next : goal.put_taken-requires-clause-next
put_taken-requires-clause-next g c = behind_next (map piece_of c.args.worked.now.book.pictures) (pieces_of c.args.next.now) c.args.decoder.now c.put_worked.new.decoder _ _ c.in_ok-put_worked.ensures.ok c.requires.next

pub returns-clause-err : goal.returns-clause-err
returns-clause-err g c =
    let failed = Rose (g.K.Sink.faults c.put_worked.new.output) (g.K.Sink.faults c.put_taken.new.output) in
    let all = Rose (g.K.Sink.faults c.args.output.now) (g.K.Sink.faults c.put_taken.new.output) in
    let h1 = g.K.Sink.held c.put_worked.new.output in
    let h2 = g.K.Sink.held c.put_taken.new.output in
    IfErr-weaker c.put_taken.result (StopsBy failed (pieces_of c.args.next.now) c.put_worked.new.decoder h1 h2) (StopsBy all (map piece_of c.args.worked.now.book.pictures ++ pieces_of c.args.next.now) c.args.decoder.now (g.K.Sink.held c.args.output.now) h2)
    (λ e stops. stops_next failed all (map piece_of c.args.worked.now.book.pictures) (pieces_of c.args.next.now) c.args.decoder.now c.put_worked.new.decoder (g.K.Sink.held c.args.output.now) h1 h2 e (λ r. rose_since c.put_worked.ensures.output.counts r) (c.in_ok-put_worked.ensures.ok).puts stops)
    c.put_taken.ensures.err

pub returns-clause-ok : goal.returns-clause-ok
returns-clause-ok g c =
    both_ok c.put_taken.result c.put_taken.ensures.ok c.put_taken.ensures.ok
    (λ were same. puts_both (map piece_of c.args.worked.now.book.pictures) (pieces_of c.args.next.now) c.args.decoder.now c.put_worked.new.decoder c.put_taken.new.decoder (g.K.Sink.held c.args.output.now) (g.K.Sink.held c.put_worked.new.output) (g.K.Sink.held c.put_taken.new.output) c.in_ok-put_worked.ensures.ok were)
