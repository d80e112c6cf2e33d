use Rattle.std.proofs.Common.{List, map, subst, ap, ◌∙◌, ◌⊎◌, inl, inr}
use Rattle.std.proofs.lemmas.Result.{err_from_is_err_and}
use Rattle.m2v_port.specs.Ends.{change}
use Rattle.m2v_port.specs.Port.{Rose, Grows}
use Rattle.m2v_port.proofs.Runs.{on_err, grows_by_none, grows_by_all}
use Rattle.m2v_model.specs.Units.{joined}
use Rattle.m2v_dec_piece.specs.Putting.{PutStops}
use Rattle.m2v_decode.specs.m2v_dec_piece.declared.answer.Piece.{Piece}
use Rattle.m2v_mend.specs.declared.gap.Gap.{Gap}
use Rattle.m2v_mend.specs.Listing.{lines_of}
use Rattle.m2v_mend.specs.Making.{gap_told}
use Rattle.m2v_mend.specs.Strand.{wholes_of}
use Rattle.m2v_mend.specs.Stretching.{held_by, all_but_last}
use Rattle.m2v_mend.proofs.Flushing.{flushed, part_made}
use Rattle.m2v_mend.proofs.Ended.{fell_named}
use Rattle.m2v_mend.proofs.stretch.flush.Goals as goal

pub returns-in_err-put_pieces-clause-err : goal.returns-in_err-put_pieces-clause-err
returns-in_err-put_pieces-clause-err g c =
    let stops = subst (λ (l : List Piece). PutStops (joined (wholes_of l)) (change g.K.Sink.held g.K.Sink.faults c.args.output.now c.put_pieces.new.output) c.in_err-put_pieces.field-0.0) c.deref.ensures.value c.in_err-put_pieces.ensures.err in
    on_err c.from_residual.result
    (part_made (held_by g.K.Sink.held g.L.Sink.held c.args.output.now c.args.list.now) (held_by g.K.Sink.held g.L.Sink.held c.put_pieces.new.output c.args.list.now) c.args.folding.now
    stops.grown (grows_by_none _))

pub returns-in_err-put_pieces-clause-fell : goal.returns-in_err-put_pieces-clause-fell
returns-in_err-put_pieces-clause-fell g c =
    let p = err_from_is_err_and c.from_residual.result c.from_residual.ensures.1 in
    rw (p.1, p.2) (fell_named (Rose (g.K.Sink.faults c.args.output.now) (g.K.Sink.faults c.put_pieces.new.output) ⊎ Rose (g.L.Sink.faults c.args.list.now) (g.L.Sink.faults c.args.list.now)) c.in_err-put_pieces.field-0.0 (λ is. inl (c.in_err-put_pieces.ensures.err.failed is)))

pub returns-in_err-put_lines-clause-fell : goal.returns-in_err-put_lines-clause-fell
returns-in_err-put_lines-clause-fell g c =
    let p = err_from_is_err_and c.from_residual-in_err-put_lines.result c.from_residual-in_err-put_lines.ensures.1 in
    rw (p.1, p.2) (fell_named (Rose (g.K.Sink.faults c.args.output.now) (g.K.Sink.faults c.put_pieces.new.output) ⊎ Rose (g.L.Sink.faults c.args.list.now) (g.L.Sink.faults c.put_lines.new.list)) c.in_err-put_lines.field-0.0 (λ is. inr (c.in_err-put_lines.ensures.err.failed is)))

pub returns-in_err-put_lines-clause-err : goal.returns-in_err-put_lines-clause-err
returns-in_err-put_lines-clause-err g c =
    let grown = subst (λ (l : List Piece). Grows (g.K.Sink.held c.args.output.now) (joined (wholes_of l)) (g.K.Sink.held c.put_pieces.new.output)) c.deref.ensures.value c.in_ok-put_pieces.ensures.grown in
    let stops = subst (λ (l : List Gap). PutStops (lines_of (map gap_told l)) (change g.L.Sink.held g.L.Sink.faults c.args.list.now c.put_lines.new.list) c.in_err-put_lines.field-0.0) (c.settled.ensures ∙ ap all_but_last c.deref-2.ensures.value) c.in_err-put_lines.ensures.err in
    on_err c.from_residual-in_err-put_lines.result
    (part_made (held_by g.K.Sink.held g.L.Sink.held c.args.output.now c.args.list.now) (held_by g.K.Sink.held g.L.Sink.held c.put_pieces.new.output c.put_lines.new.list) c.args.folding.now
    (grows_by_all grown) stops.grown)

pub returns-in_err-forget-clause-err : goal.returns-in_err-forget-clause-err
returns-in_err-forget-clause-err g c =
    let grown = subst (λ (l : List Piece). Grows (g.K.Sink.held c.args.output.now) (joined (wholes_of l)) (g.K.Sink.held c.put_pieces.new.output)) c.deref.ensures.value c.in_ok-put_pieces.ensures.grown in
    let lines = subst (λ (l : List Gap). Grows (g.L.Sink.held c.args.list.now) (lines_of (map gap_told l)) (g.L.Sink.held c.put_lines.new.list)) (c.settled.ensures ∙ ap all_but_last c.deref-2.ensures.value) c.in_ok-put_lines.ensures.grown in
    on_err c.from_residual-in_err-forget.result
    (part_made (held_by g.K.Sink.held g.L.Sink.held c.args.output.now c.args.list.now) (held_by g.K.Sink.held g.L.Sink.held c.put_pieces.new.output c.put_lines.new.list) c.args.folding.now
    (grows_by_all grown) (grows_by_all lines))

pub returns-clause-told : goal.returns-clause-told
returns-clause-told g c =
    flushed (held_by g.K.Sink.held g.L.Sink.held c.args.output.now c.args.list.now) (held_by g.K.Sink.held g.L.Sink.held c.put_pieces.new.output c.put_lines.new.list) c.args.folding.now c.forget.new.folding
    (record {
      text = subst (λ (l : List Piece). Grows (g.K.Sink.held c.args.output.now) (joined (wholes_of l)) (g.K.Sink.held c.put_pieces.new.output)) c.deref.ensures.value c.in_ok-put_pieces.ensures.grown;
      list = subst (λ (l : List Gap). Grows (g.L.Sink.held c.args.list.now) (lines_of (map gap_told l)) (g.L.Sink.held c.put_lines.new.list)) (c.settled.ensures ∙ ap all_but_last c.deref-2.ensures.value) c.in_ok-put_lines.ensures.grown;
    })
    c.in_ok-forget.ensures
