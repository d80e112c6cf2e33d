use Rattle.std.proofs.Common.{sym, ◌∙◌}
use Rattle.std.proofs.lemmas.Result.{on_ok_weaker, on_err_weaker}
use Rattle.m2v_port.proofs.Runs.{on_err}
use Rattle.m2v_mend.proofs.Flushing.{taken_none, taken_some, taken_not, taken_cut}
use Rattle.m2v_mend.proofs.stretch.take.Goals as goal

pub returns-then-length-eq0-clause-told : goal.returns-then-length-eq0-clause-told
returns-then-length-eq0-clause-told g c = taken_none _ c.args.fresh c.args.folding.now (sym c.length.ensures ∙ c.if-length-eq0.true)

pub returns-in_err-piece-clause-err : goal.returns-in_err-piece-clause-err
returns-in_err-piece-clause-err g c = on_err c.from_residual.result (λ written listed h is next. taken_not _ c.args.fresh c.args.folding.now written listed h is)

pub returns-clause-told : goal.returns-clause-told
returns-clause-told g c =
    on_ok_weaker c.flush.result (λ f. taken_some _ _ c.args.fresh c.args.folding.now c.piece.new.self c.flush.new.folding (λ none. c.if-length-eq0.false (c.length.ensures ∙ none)) c.in_ok-piece.ensures.told f) c.flush.ensures.told

pub returns-clause-err : goal.returns-clause-err
returns-clause-err g c =
    on_err_weaker c.flush.result (λ cut. taken_cut _ _ c.args.fresh c.args.folding.now c.piece.new.self (λ none. c.if-length-eq0.false (c.length.ensures ∙ none)) c.in_ok-piece.ensures.told cut) c.flush.ensures.err
