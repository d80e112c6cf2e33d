use Rattle.std.proofs.Common.{map}
use Rattle.std.specs.Prelude.{option_to_list}
use Rattle.std.proofs.lemmas.Result.{err_from_is_err_and, IfErr-weaker}
use Rattle.m2v_port.specs.Port.{Rose}
use Rattle.m2v_port.proofs.Runs.{rose_since}
use Rattle.m2v_dec_piece.proofs.Steps.{both_ok}
use Rattle.m2v_pardec.specs.Taken.{piece_of, pieces_of}
use Rattle.m2v_pardec.specs.Put.{StopsBy}
use Rattle.m2v_pardec.proofs.PutLaws.{front_next, behind_next, stops_first, stops_next, puts_both}
use Rattle.m2v_pardec.proofs.chain.put_taken.Goals as goal

pub put_pieces-requires-clause-next : goal.put_pieces-requires-clause-next
put_pieces-requires-clause-next g c = rw c.pictures.ensures.value (front_next (map piece_of c.args.taken.now.pictures.pictures) (option_to_list c.args.taken.now.other) c.args.decoder.now c.requires.next)

pub returns-in_err-put_pieces-clause-err : goal.returns-in_err-put_pieces-clause-err
returns-in_err-put_pieces-clause-err g c =
    let p = err_from_is_err_and c.from_residual.result c.from_residual.ensures.1 in
    rw (p.1, p.2) (stops_first _ (map piece_of c.args.taken.now.pictures.pictures) (option_to_list c.args.taken.now.other) c.args.decoder.now (g.K.Sink.held c.args.output.now) (g.K.Sink.held c.put_pieces.new.output) c.in_err-put_pieces.field-0.0 (rw c.pictures.ensures.value at c.in_err-put_pieces.ensures.err))

pub put_rest-requires-clause-next : goal.put_rest-requires-clause-next
put_rest-requires-clause-next g c = behind_next (map piece_of c.args.taken.now.pictures.pictures) (option_to_list c.args.taken.now.other) c.args.decoder.now c.put_pieces.new.decoder _ _ (rw c.pictures.ensures.value at c.in_ok-put_pieces.ensures.ok) c.requires.next

pub returns-clause-err : goal.returns-clause-err
returns-clause-err g c =
    let failed = Rose (g.K.Sink.faults c.put_pieces.new.output) (g.K.Sink.faults c.put_rest.new.output) in
    let all = Rose (g.K.Sink.faults c.args.output.now) (g.K.Sink.faults c.put_rest.new.output) in
    let h1 = g.K.Sink.held c.put_pieces.new.output in
    let h2 = g.K.Sink.held c.put_rest.new.output in
    let were = rw c.pictures.ensures.value at c.in_ok-put_pieces.ensures.ok in
    IfErr-weaker c.put_rest.result (StopsBy failed (option_to_list c.args.taken.now.other) c.put_pieces.new.decoder h1 h2) (StopsBy all (pieces_of c.args.taken.now) c.args.decoder.now (g.K.Sink.held c.args.output.now) h2)
    (λ e stops. stops_next failed all (map piece_of c.args.taken.now.pictures.pictures) (option_to_list c.args.taken.now.other) c.args.decoder.now c.put_pieces.new.decoder (g.K.Sink.held c.args.output.now) h1 h2 e (λ r. rose_since c.put_pieces.ensures.output.counts r) were.puts stops)
    c.put_rest.ensures.err

pub returns-clause-ok : goal.returns-clause-ok
returns-clause-ok g c =
    both_ok c.put_rest.result c.put_rest.ensures.ok c.put_rest.ensures.ok
    (λ were same. puts_both (map piece_of c.args.taken.now.pictures.pictures) (option_to_list c.args.taken.now.other) c.args.decoder.now c.put_pieces.new.decoder c.put_rest.new.decoder (g.K.Sink.held c.args.output.now) (g.K.Sink.held c.put_pieces.new.output) (g.K.Sink.held c.put_rest.new.output) (rw c.pictures.ensures.value at c.in_ok-put_pieces.ensures.ok) were)
