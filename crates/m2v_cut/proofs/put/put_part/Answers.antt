use Rattle.std.proofs.Common.{refl, subst, List, ℕ, max}
use Rattle.std.proofs.lemmas.Result.{err_from_is_err_and, on_ok_weaker, IfErr-weaker}
use Rattle.m2v_port.specs.Port.{Grows}
use Rattle.m2v_port.specs.Ends.{change}
use Rattle.m2v_port.proofs.Runs.{grows_on}
use Rattle.m2v_decode.specs.Decoding.{whole_of}
use Rattle.m2v_dec_piece.specs.Putting.{PutStops}
use Rattle.m2v_dec_piece.proofs.PutLaws.{stops_more, stops_on}
use Rattle.m2v_cut.specs.Progress.{part}
use Rattle.m2v_cut.proofs.Putting.{part_written}
use Rattle.m2v_cut.proofs.put.put_part.Goals as goal

pub returns-in_err-put-clause-err : goal.returns-in_err-put-clause-err
returns-in_err-put-clause-err g c =
    let p = err_from_is_err_and c.from_residual.result c.from_residual.ensures.1 in
    rw (p.1, p.2)
    (subst (λ (b : List ℕ). PutStops b (change g.K.Sink.held g.K.Sink.faults c.args.output.now c.put.new.output) c.in_err-put.field-0.0)
    (part_written c.args.piece.now c.args.from c.args.to c.min.result c.min-2.result (max c.args.from c.len-kept.result) (max c.args.to c.len-kept.result) c.len-kept.result c.deref.result.now c.requires.piece c.requires.ordered c.requires.within c.deref.ensures.value c.len-kept.ensures c.min.ensures c.min-2.ensures refl refl)
    (stops_more g.K.Sink.held g.K.Sink.faults _ _ _ _ _ c.in_err-put.ensures.err))

pub returns-clause-grown : goal.returns-clause-grown
returns-clause-grown g c =
    on_ok_weaker c.put_zeros.result
    (λ next. subst (λ (b : List ℕ). Grows (g.K.Sink.held c.args.output.now) b (g.K.Sink.held c.put_zeros.new.output))
    (part_written c.args.piece.now c.args.from c.args.to c.min.result c.min-2.result c.max-2.result c.max.result c.len-kept.result c.deref.result.now c.requires.piece c.requires.ordered c.requires.within c.deref.ensures.value c.len-kept.ensures c.min.ensures c.min-2.ensures c.max-2.ensures c.max.ensures)
    (grows_on c.in_ok-put.ensures.grown next))
    c.put_zeros.ensures.grown

pub returns-clause-err : goal.returns-clause-err
returns-clause-err g c =
    IfErr-weaker c.put_zeros.result _ (PutStops (part c.args.from c.args.to (whole_of c.args.piece.now)) (change g.K.Sink.held g.K.Sink.faults c.args.output.now c.put_zeros.new.output))
    (λ e why. subst (λ (b : List ℕ). PutStops b (change g.K.Sink.held g.K.Sink.faults c.args.output.now c.put_zeros.new.output) e)
    (part_written c.args.piece.now c.args.from c.args.to c.min.result c.min-2.result c.max-2.result c.max.result c.len-kept.result c.deref.result.now c.requires.piece c.requires.ordered c.requires.within c.deref.ensures.value c.len-kept.ensures c.min.ensures c.min-2.ensures c.max-2.ensures c.max.ensures)
    (stops_on g.K.Sink.held g.K.Sink.faults _ _ _ _ _ e c.put.ensures.output.counts c.in_ok-put.ensures.grown why))
    c.put_zeros.ensures.err
