use Rattle.std.proofs.Common.{[], ◌∷◌}
use Rattle.std.proofs.lemmas.Result.{err_from_is_err_and, IfErr-weaker}
use Rattle.m2v_dec_piece.proofs.Steps.{both_ok}
use Rattle.m2v_port.specs.Ends.{change}
use Rattle.m2v_port.specs.Port.{Rose}
use Rattle.m2v_decode.specs.Decoding.{due_of}
use Rattle.m2v_decode.specs.Progress.{Cuts, raw_of}
use Rattle.m2v_pardec.specs.Put.{StopsBy}
use Rattle.m2v_pardec.proofs.PutLaws.{put_one, refused_one, unwritten_one}
use Rattle.m2v_pardec.proofs.pieces.put_piece.Goals as goal

pub returns-in_err-piece-clause-err : goal.returns-in_err-piece-clause-err
returns-in_err-piece-clause-err g c =
    let p = err_from_is_err_and c.from_residual.result c.from_residual.ensures.1 in
    rw (p.1, p.2) (refused_one _ c.args.decoder.now c.args.piece.now (g.K.Sink.held c.args.output.now) c.in_err-piece.field-0.0 c.requires.piece c.in_err-piece.ensures.err)

pub returns-clause-ok : goal.returns-clause-ok
returns-clause-ok g c =
    both_ok c.put_due.result c.put_due.ensures.put c.put_due.ensures.grown
    (λ put grown. put_one c.args.decoder.now c.piece.new.self c.put_due.new.decoder c.args.piece.now (g.K.Sink.held c.args.output.now) (g.K.Sink.held c.put_due.new.output) c.in_ok-piece.ensures.ok.onward put grown)

pub returns-clause-err : goal.returns-clause-err
returns-clause-err g c = IfErr-weaker c.put_due.result
    (Cuts (raw_of (due_of c.piece.new.self)) (change g.K.Sink.held g.K.Sink.faults c.args.output.now c.put_due.new.output))
    (StopsBy (Rose (g.K.Sink.faults c.args.output.now) (g.K.Sink.faults c.put_due.new.output)) (c.args.piece.now ∷ []) c.args.decoder.now (g.K.Sink.held c.args.output.now) (g.K.Sink.held c.put_due.new.output))
    (λ e cut. unwritten_one _ c.args.decoder.now c.piece.new.self c.args.piece.now (change g.K.Sink.held g.K.Sink.faults c.args.output.now c.put_due.new.output) e (λ r. r) c.in_ok-piece.ensures.ok.onward cut)
    c.put_due.ensures.err
