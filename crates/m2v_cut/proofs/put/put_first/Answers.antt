use Rattle.std.proofs.Common.{sym, ◌∙◌, ap}
use Rattle.std.proofs.lemmas.Result.{err_from_is_err_and}
use Rattle.m2v_port.proofs.Runs.{stays_on}
use Rattle.m2v_decode.proofs.EndLaws.{whole_length}
use Rattle.m2v_law_group.specs.Groups.{with_broken_link}
use Rattle.m2v_cut.proofs.Putting.{byte_stops, rest_stops}
use Rattle.m2v_cut.proofs.put.put_first.Goals as goal

pub returns-in_err-put-clause-err : goal.returns-in_err-put-clause-err
returns-in_err-put-clause-err g c =
    let p = err_from_is_err_and c.from_residual-in_err-put.result c.from_residual-in_err-put.ensures.1 in
    rw (p.1, p.2) (byte_stops g.K.Sink.held g.K.Sink.faults _ _ _ _ c.args.sequence c.args.header c.args.behind c.broken.result _ c.if-not-behind.false (c.broken.ensures ∙ ap with_broken_link c.byte_at.ensures) c.put_part-2.ensures.output.counts c.in_ok-put_part-2.ensures.grown c.in_err-put.ensures.err)

pub returns-in_err-put_part-3-clause-err : goal.returns-in_err-put_part-3-clause-err
returns-in_err-put_part-3-clause-err g c =
    let p = err_from_is_err_and c.from_residual-in_err-put_part-3.result c.from_residual-in_err-put_part-3.ensures.1 in
    rw (p.1, p.2) (rest_stops g.K.Sink.held g.K.Sink.faults _ _ _ _ _ c.args.sequence c.args.header c.args.piece.now.length c.args.behind c.broken.result _ c.if-not-behind.false (c.broken.ensures ∙ ap with_broken_link c.byte_at.ensures) (sym (whole_length c.args.piece.now c.requires.piece))
    (stays_on c.put_part-2.ensures.output c.put.ensures.output).counts c.in_ok-put_part-2.ensures.grown c.in_ok-put.ensures.grown c.in_err-put_part-3.ensures.err)
