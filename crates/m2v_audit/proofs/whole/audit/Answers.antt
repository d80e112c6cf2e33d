use Rattle.std.proofs.lemmas.Result.{err_from_is_err_and}
use Rattle.m2v_audit.proofs.AllTexts.{head_fails, none_read, texts_fail, total_fails, all_told}
use Rattle.m2v_audit.proofs.whole.audit.Goals as goal

pub returns-in_err-begin-clause-err : goal.returns-in_err-begin-clause-err
returns-in_err-begin-clause-err g c =
    let p = err_from_is_err_and c.from_residual.result c.from_residual.ensures.1 in
    rw (p.1, p.2) (head_fails g.S.Source.left g.S.Source.faults g.K.Sink.held g.K.Sink.faults c.args.asked _ _ _ c.in_err-begin.field-0.0 c.in_err-begin.ensures.err)

pub returns-in_err-feed-clause-err : goal.returns-in_err-feed-clause-err
returns-in_err-feed-clause-err g c =
    let p = err_from_is_err_and c.from_residual-in_err-feed.result c.from_residual-in_err-feed.ensures.1 in
    rw (p.1, p.2) (none_read g.S.Source.left g.S.Source.faults g.K.Sink.held g.K.Sink.faults c.args.asked _ _ _ c.in_ok-begin.ensures.grown)

pub returns-in_err-tell_texts-clause-err : goal.returns-in_err-tell_texts-clause-err
returns-in_err-tell_texts-clause-err g c =
    let p = err_from_is_err_and c.from_residual-in_err-tell_texts.result c.from_residual-in_err-tell_texts.ensures.1 in
    rw (p.1, p.2) (texts_fail g.S.Source.left g.S.Source.faults g.K.Sink.held g.K.Sink.faults c.args.asked _ _ _ _ _ c.in_err-tell_texts.field-0.0 c.begin.ensures.output.counts c.in_ok-begin.ensures.grown c.in_err-tell_texts.ensures.err)

pub returns-in_err-end-clause-err : goal.returns-in_err-end-clause-err
returns-in_err-end-clause-err g c =
    let p = err_from_is_err_and c.from_residual-in_err-end.result c.from_residual-in_err-end.ensures.1 in
    rw (p.1, p.2) (total_fails g.S.Source.left g.S.Source.faults g.K.Sink.held g.K.Sink.faults c.args.asked _ _ _ _ _ _ c.tell_texts.new.so_far c.in_err-end.field-0.0
    c.tell_texts.ensures.input c.begin.ensures.output.counts c.tell_texts.ensures.output.counts c.in_ok-begin.ensures.grown c.in_ok-tell_texts.ensures.ok c.in_err-end.ensures.err)

pub returns-clause-ok : goal.returns-clause-ok
returns-clause-ok g c =
    all_told g.S.Source.left g.S.Source.faults g.K.Sink.held g.K.Sink.faults c.args.asked _ _ _ _ _ _ c.tell_texts.new.so_far c.in_ok-begin.ensures.grown c.in_ok-tell_texts.ensures.ok c.in_ok-end.ensures.grown
