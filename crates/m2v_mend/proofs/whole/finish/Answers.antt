use Rattle.std.proofs.Common.{List, map, refl, subst, ◌⊎◌, inl, inr}
use Rattle.std.proofs.lemmas.Result.{err_from_is_err_and}
use Rattle.m2v_port.specs.Ends.{change}
use Rattle.m2v_port.specs.Port.{Rose, Grows}
use Rattle.m2v_port.proofs.Runs.{on_err, grows_by_all}
use Rattle.m2v_dec_piece.specs.Putting.{PutStops}
use Rattle.m2v_mend.specs.declared.gap.Gap.{Gap}
use Rattle.m2v_mend.specs.Listing.{lines_of}
use Rattle.m2v_mend.specs.Making.{gap_told}
use Rattle.m2v_mend.specs.Stretching.{held_by}
use Rattle.m2v_mend.proofs.Ended.{all_none, all_some, cut_lines, cut_code, fell_named}
use Rattle.m2v_mend.proofs.whole.finish.Goals as goal

pub returns-in_err-put_lines-clause-err : goal.returns-in_err-put_lines-clause-err
returns-in_err-put_lines-clause-err g c =
    on_err c.from_residual.result (λ d first left start place h.
    let stops = subst (λ (l : List Gap). PutStops (lines_of (map gap_told l)) (change g.L.Sink.held g.L.Sink.faults c.args.list.now c.put_lines.new.list) c.in_err-put_lines.field-0.0) c.deref.ensures.value c.in_err-put_lines.ensures.err in
    cut_lines d c.args.folding.now c.args.end first left start (held_by g.K.Sink.held g.L.Sink.held c.args.output.now c.args.list.now) (held_by g.K.Sink.held g.L.Sink.held c.args.output.now c.put_lines.new.list)
    place c.requires.none h refl stops.grown)

pub returns-in_err-put_lines-clause-fell : goal.returns-in_err-put_lines-clause-fell
returns-in_err-put_lines-clause-fell g c =
    let p = err_from_is_err_and c.from_residual.result c.from_residual.ensures.1 in
    rw (p.1, p.2) (fell_named (Rose (g.K.Sink.faults c.args.output.now) (g.K.Sink.faults c.args.output.now) ⊎ Rose (g.L.Sink.faults c.args.list.now) (g.L.Sink.faults c.put_lines.new.list)) c.in_err-put_lines.field-0.0 (λ is. inr (c.in_err-put_lines.ensures.err.failed is)))

pub returns-in_err-put-clause-fell : goal.returns-in_err-put-clause-fell
returns-in_err-put-clause-fell g c =
    let p = err_from_is_err_and c.from_residual-in_err-put.result c.from_residual-in_err-put.ensures.1 in
    rw (p.1, p.2) (fell_named (Rose (g.K.Sink.faults c.args.output.now) (g.K.Sink.faults c.put.new.output) ⊎ Rose (g.L.Sink.faults c.args.list.now) (g.L.Sink.faults c.put_lines.new.list)) c.in_err-put.field-0.0 (λ is. inl (c.in_err-put.ensures.err.failed is)))

pub returns-then-folding-eq0-clause-told : goal.returns-then-folding-eq0-clause-told
returns-then-folding-eq0-clause-told g c = λ d first left start place h.
    let lines = subst (λ (l : List Gap). Grows (g.L.Sink.held c.args.list.now) (lines_of (map gap_told l)) (g.L.Sink.held c.put_lines.new.list)) c.deref.ensures.value c.in_ok-put_lines.ensures.grown in
    all_none d c.args.folding.now c.args.end first left start (held_by g.K.Sink.held g.L.Sink.held c.args.output.now c.args.list.now) (held_by g.K.Sink.held g.L.Sink.held c.args.output.now c.put_lines.new.list)
    place c.requires.none h c.nothing.result refl lines c.if-folding-eq0.true c.nothing.ensures

pub returns-in_err-answer-clause-err : goal.returns-in_err-answer-clause-err
returns-in_err-answer-clause-err g c =
    on_err c.from_residual-in_err-answer.result (λ d first left start place h.
    let lines = subst (λ (l : List Gap). Grows (g.L.Sink.held c.args.list.now) (lines_of (map gap_told l)) (g.L.Sink.held c.put_lines.new.list)) c.deref.ensures.value c.in_ok-put_lines.ensures.grown in
    cut_lines d c.args.folding.now c.args.end first left start (held_by g.K.Sink.held g.L.Sink.held c.args.output.now c.args.list.now) (held_by g.K.Sink.held g.L.Sink.held c.args.output.now c.put_lines.new.list)
    place c.requires.none h refl (grows_by_all lines))

pub returns-in_err-put-clause-err : goal.returns-in_err-put-clause-err
returns-in_err-put-clause-err g c =
    on_err c.from_residual-in_err-put.result (λ d first left start place h.
    let lines = subst (λ (l : List Gap). Grows (g.L.Sink.held c.args.list.now) (lines_of (map gap_told l)) (g.L.Sink.held c.put_lines.new.list)) c.deref.ensures.value c.in_ok-put_lines.ensures.grown in
    cut_code d c.args.folding.now c.args.end first left start (held_by g.K.Sink.held g.L.Sink.held c.args.output.now c.args.list.now) (held_by g.K.Sink.held g.L.Sink.held c.put.new.output c.put_lines.new.list)
    place c.requires.none h c.if-folding-eq0.false
    c.in_err-put.ensures.err.grown lines)

pub returns-clause-told : goal.returns-clause-told
returns-clause-told g c = λ d first left start place h.
    let lines = subst (λ (l : List Gap). Grows (g.L.Sink.held c.args.list.now) (lines_of (map gap_told l)) (g.L.Sink.held c.put_lines.new.list)) c.deref.ensures.value c.in_ok-put_lines.ensures.grown in
    all_some d c.args.folding.now c.args.end first left start (held_by g.K.Sink.held g.L.Sink.held c.args.output.now c.args.list.now) (held_by g.K.Sink.held g.L.Sink.held c.put.new.output c.put_lines.new.list)
    place c.requires.none h c.in_ok-answer.answer c.in_ok-put.ensures.grown lines c.if-folding-eq0.false c.in_ok-answer.ensures
