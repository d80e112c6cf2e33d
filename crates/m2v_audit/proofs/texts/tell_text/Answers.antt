use Rattle.std.proofs.Common.{sym, ap, ap₂}
use Rattle.std.proofs.lemmas.Result.{err_from_is_err_and}
use Rattle.m2v_audit.specs.declared.records.TotalRecord.{TotalRecord}
use Rattle.m2v_audit.specs.declared.outcome.Ending.{Ending}
use Rattle.m2v_audit.specs.Feeding.{cutting_of}
use Rattle.m2v_audit.proofs.TextReports.{fails, stopped_text, stopped_cut, skipped_all, skipped_cut, ended_text, ended_cut}
use Rattle.m2v_audit.proofs.texts.tell_text.Goals as goal

pub returns-in_err-skip-in-Ok-true-clause-err : goal.returns-in_err-skip-in-Ok-true-clause-err
returns-in_err-skip-in-Ok-true-clause-err g c =
    let p = err_from_is_err_and c.from_residual.result c.from_residual.ensures.1 in
    let r = rw (c.new-auditor.ensures, c.place-start.ensures.value, c.in-Ok-true.field-0-test) at c.in-Ok-true.ensures.ok in
    rw (p.1, p.2) (λ n room.
    skipped_cut g.S.Source.left g.S.Source.faults g.K.Sink.held g.K.Sink.faults n c.args.asked.now c.args.later c.args.so_far.now (cutting_of c.args.feed.now) room c.requires.begun c.requires.ended _ _ _ _ _ _ _ c.in_err-skip-in-Ok-true.field-0.0 c.read_text.ensures.output.counts c.read_text.ensures.input r
    (rw (c.place.ensures.value, c.place-start.ensures.value) at c.in_err-skip-in-Ok-true.ensures.err))

pub returns-in-Ok-true-clause-ok : goal.returns-in-Ok-true-clause-ok
returns-in-Ok-true-clause-ok g c =
    let r = rw (c.new-auditor.ensures, c.place-start.ensures.value, c.in-Ok-true.field-0-test) at c.in-Ok-true.ensures.ok in
    λ n room.
    skipped_all g.S.Source.left g.S.Source.faults g.K.Sink.held g.K.Sink.faults n c.args.asked.now c.args.later c.args.so_far.now (cutting_of c.args.feed.now) room c.requires.begun c.requires.ended _ _ _ _ _ _ _ r
    (rw (c.place.ensures.value, c.place-start.ensures.value) at c.in_ok-skip-in-Ok-true.ensures.grown)

pub returns-in_err-finish-in-Ok-false-clause-err : goal.returns-in_err-finish-in-Ok-false-clause-err
returns-in_err-finish-in-Ok-false-clause-err g c =
    let p = err_from_is_err_and c.from_residual-in_err-finish-in-Ok-false.result c.from_residual-in_err-finish-in-Ok-false.ensures.1 in
    let r = rw (c.new-auditor.ensures, c.place-start.ensures.value, c.in-Ok-false.field-0-test) at c.in-Ok-false.ensures.ok in
    rw (p.1, p.2) (λ n room.
    ended_cut g.S.Source.left g.S.Source.faults g.K.Sink.held g.K.Sink.faults n c.args.asked.now c.args.later c.args.so_far.now (cutting_of c.args.feed.now) room c.requires.begun c.requires.ended _ _ _ _ _ _ _ c.in_err-finish-in-Ok-false.field-0.0 c.read_text.ensures.output.counts c.read_text.ensures.input r
    c.in_err-finish-in-Ok-false.ensures.err)

pub returns-in-Ok-false-clause-ok : goal.returns-in-Ok-false-clause-ok
returns-in-Ok-false-clause-ok g c =
    let r = rw (c.new-auditor.ensures, c.place-start.ensures.value, c.in-Ok-false.field-0-test) at c.in-Ok-false.ensures.ok in
    λ n room.
    ended_text g.S.Source.left g.S.Source.faults g.K.Sink.held g.K.Sink.faults n c.args.asked.now c.args.later c.args.so_far.now (cutting_of c.args.feed.now) room c.requires.begun c.requires.ended _ _ _ _ _ _ _ _ _ r c.in-Ok-false.ensures.going
    c.in_ok-finish-in-Ok-false.ensures.grown (ap (λ (t : TotalRecord). record c.args.so_far.now { totals = t }) (rw c.in_ok-finish-in-Ok-false.ensures.auditor at c.count.ensures.totals))
    (rw c.in_ok-finish-in-Ok-false.ensures.auditor at c.count.ensures.asked)

pub returns-in_err-ending-in-Err-clause-err : goal.returns-in_err-ending-in-Err-clause-err
returns-in_err-ending-in-Err-clause-err g c =
    let p = err_from_is_err_and c.from_residual-in_err-ending-in-Err.result c.from_residual-in_err-ending-in-Err.ensures.1 in
    let s = rw (c.new-auditor.ensures, c.place-start.ensures.value) at c.in-Err.ensures.err in
    rw (p.1, p.2) (λ n room.
    fails g.S.Source.left g.S.Source.faults g.K.Sink.held g.K.Sink.faults n c.args.asked.now c.args.later c.args.so_far.now (cutting_of c.args.feed.now) room c.requires.begun c.requires.ended _ _ _ _ _ _ c.in-Err.e c.in_err-ending-in-Err.field-0.0 (sym c.in_err-ending-in-Err.ensures) s)

pub returns-in_err-stop-in-Err-clause-err : goal.returns-in_err-stop-in-Err-clause-err
returns-in_err-stop-in-Err-clause-err g c =
    let p = err_from_is_err_and c.from_residual-in_err-stop-in-Err.result c.from_residual-in_err-stop-in-Err.ensures.1 in
    let s = rw (c.new-auditor.ensures, c.place-start.ensures.value) at c.in-Err.ensures.err in
    rw (p.1, p.2) (λ n room.
    stopped_cut g.S.Source.left g.S.Source.faults g.K.Sink.held g.K.Sink.faults n c.args.asked.now c.args.later c.args.so_far.now (cutting_of c.args.feed.now) room c.requires.begun c.requires.ended _ _ _ _ _ _ _ c.in-Err.e c.in_err-stop-in-Err.field-0.0 c.in_ok-ending-in-Err.ending
    c.read_text.ensures.output.counts c.read_text.ensures.input (sym c.in_ok-ending-in-Err.ensures) s c.in_err-stop-in-Err.ensures.err)

pub returns-clause-ok : goal.returns-clause-ok
returns-clause-ok g c =
    let s = rw (c.new-auditor.ensures, c.place-start.ensures.value) at c.in-Err.ensures.err in
    rw c.is_fault.ensures (λ n room.
    stopped_text g.S.Source.left g.S.Source.faults g.K.Sink.held g.K.Sink.faults n c.args.asked.now c.args.later c.args.so_far.now (cutting_of c.args.feed.now) room c.requires.begun c.requires.ended _ _ _ _ _ _ _ _ _ c.in-Err.e c.in_ok-ending-in-Err.ending (sym c.in_ok-ending-in-Err.ensures) s
    c.in_ok-stop-in-Err.ensures.grown (ap₂ (λ (t : TotalRecord) (e : Ending). record { totals = t; ending = e }) (rw c.in_ok-stop-in-Err.ensures.auditor at c.count-in-Err.ensures.totals) c.or-so_far.ensures)
    (rw c.in_ok-stop-in-Err.ensures.auditor at c.count-in-Err.ensures.asked))
