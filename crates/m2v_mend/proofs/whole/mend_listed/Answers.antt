use Rattle.std.proofs.Common.{sym, subst}
use Rattle.std.proofs.lemmas.Result.{err_from_is_err_and, on_err_weaker, IfOk-weaker, IfErr-weaker}
use Rattle.m2v_port.specs.Ends.{change}
use Rattle.m2v_decode.specs.m2v_dec_piece.Cutting.{Cutting}
use Rattle.m2v_mend.specs.declared.answer.MendError.TheVariants as errors
use Rattle.m2v_mend.specs.Stretching.{held_by, IsBefore, Comes}
use Rattle.m2v_mend.proofs.Coming.{nothing_read_yet}
use Rattle.m2v_mend.proofs.Ended.{fails_by, fails_first, fell_since, each_fails, all_mended}
use Rattle.m2v_mend.proofs.whole.mend_listed.Goals as goal

pub returns-in_err-feed-clause-err : goal.returns-in_err-feed-clause-err
returns-in_err-feed-clause-err g c =
    let p = err_from_is_err_and c.from_residual.result c.from_residual.ensures.1 in
    rw (p.1, p.2) (fails_by (change g.S.Source.left g.S.Source.faults c.args.input.now c.args.input.now) (change g.K.Sink.held g.K.Sink.faults c.args.output.now c.args.output.now)
    (change g.L.Sink.held g.L.Sink.faults c.args.list.now c.args.list.now) errors.Memory tt tt (fails_first _ _))

pub returns-in_err-stretches-clause-err : goal.returns-in_err-stretches-clause-err
returns-in_err-stretches-clause-err g c =
    let p = err_from_is_err_and c.from_residual-in_err-stretches.result c.from_residual-in_err-stretches.ensures.1 in
    let left = g.S.Source.left c.args.input.now in
    let held = held_by g.K.Sink.held g.L.Sink.held c.args.output.now c.args.list.now in
    let begun = subst (λ (f : Cutting). Comes (IsBefore f c.new-folding.result) left left held held) (sym c.in_ok-feed.ensures) (nothing_read_yet c.new-folding.result left held c.new-folding.ensures.folded) in
    rw (p.1, p.2) (fails_by (change g.S.Source.left g.S.Source.faults c.args.input.now c.stretches.new.input) (change g.K.Sink.held g.K.Sink.faults c.args.output.now c.stretches.new.output)
    (change g.L.Sink.held g.L.Sink.faults c.args.list.now c.stretches.new.list) c.in_err-stretches.field-0.0 c.in_err-stretches.ensures.stops.fell (c.in_err-stretches.ensures.stops.past left held begun) (c.in_err-stretches.ensures.stops.cut left held begun))

pub returns-clause-ok : goal.returns-clause-ok
returns-clause-ok g c =
    let left = g.S.Source.left c.args.input.now in
    let held = held_by g.K.Sink.held g.L.Sink.held c.args.output.now c.args.list.now in
    let begun = subst (λ (f : Cutting). Comes (IsBefore f c.new-folding.result) left left held held) (sym c.in_ok-feed.ensures) (nothing_read_yet c.new-folding.result left held c.new-folding.ensures.folded) in
    IfOk-weaker c.finish.result _ _
    (λ a told. all_mended (change g.S.Source.left g.S.Source.faults c.args.input.now c.stretches.new.input) (change g.K.Sink.held g.K.Sink.faults c.args.output.now c.finish.new.output)
    (change g.L.Sink.held g.L.Sink.faults c.args.list.now c.finish.new.list) a
    (told c.stretches.new.feed left (g.S.Source.left c.stretches.new.input) held (sym c.place.ensures.value) (c.in_ok-stretches.ensures.told left held begun)))
    c.finish.ensures.told

pub returns-clause-err : goal.returns-clause-err
returns-clause-err g c =
    let left = g.S.Source.left c.args.input.now in
    let held = held_by g.K.Sink.held g.L.Sink.held c.args.output.now c.args.list.now in
    let begun = subst (λ (f : Cutting). Comes (IsBefore f c.new-folding.result) left left held held) (sym c.in_ok-feed.ensures) (nothing_read_yet c.new-folding.result left held c.new-folding.ensures.folded) in
    each_fails (change g.S.Source.left g.S.Source.faults c.args.input.now c.stretches.new.input) (change g.K.Sink.held g.K.Sink.faults c.args.output.now c.finish.new.output)
    (change g.L.Sink.held g.L.Sink.faults c.args.list.now c.finish.new.list) c.finish.result
    (IfErr-weaker c.finish.result _ _ (λ e fell. fell_since _ _ _ _ _ _ e c.stretches.ensures.output.counts c.stretches.ensures.list.counts fell) c.finish.ensures.fell)
    (on_err_weaker c.finish.result (λ cut. cut c.stretches.new.feed left (g.S.Source.left c.stretches.new.input) held (sym c.place.ensures.value) (c.in_ok-stretches.ensures.told left held begun)) c.finish.ensures.err)
