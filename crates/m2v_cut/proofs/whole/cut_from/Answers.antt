use Rattle.std.proofs.Common.{◌≡◌, ℕ, Option, Some, None, ◌-◌, ◌∙◌, refl, sym, subst, arith}
use Rattle.m2v_decode.specs.Decoding.{whole_of}
use Rattle.m2v_model.specs.Units.{cut}
use Rattle.m2v_decode.proofs.EndLaws.{whole_length}
use Rattle.m2v_cut.proofs.Firsts.{headers_less, start_fits, header_low, second_room, second_sound}
use Rattle.std.proofs.lemmas.Result.{err_from_is_err_and}
use Rattle.m2v_port.specs.Ends.{change}
use Rattle.m2v_cut.specs.Starts.{piece_list}
use Rattle.m2v_cut.specs.Behind.{BehindPut, BehindFails}
use Rattle.m2v_cut.proofs.Parts.{head_failed}
use Rattle.m2v_cut.proofs.Putting.{cuts_named}
use Rattle.m2v_cut.proofs.Refusals.{refused_told}
use Rattle.m2v_cut.proofs.Seconds.{second_failed}
use Rattle.m2v_cut.proofs.Wholes.{whole_told, end_failed}
use Rattle.m2v_cut.proofs.Stops.{behind_failed}
use Rattle.m2v_cut.proofs.whole.cut_from.Goals as goal

is_none : (o : Option ℕ) → ((x : ℕ) → o ≡ Some x → ⊥) → o ≡ None
is_none None f = refl
is_none (Some x) f = absurd (f x refl)

pub start_in-start-requires-clause-here : goal.start_in-start-requires-clause-here
start_in-start-requires-clause-here g c =
    let less = headers_less (cut 0 (whole_of c.args.found.piece)).1 in
    omega (arith, c.requires.here, less)

pub overflow_add-result : goal.overflow_add-result
overflow_add-result g c =
    let low = header_low (whole_of c.args.found.piece) c.args.found.number c.start_in-start.result c.start_in-start.ensures in
    omega (arith, low, c.requires.place, c.requires.low)

pub overflow_mul-result : goal.overflow_mul-result
overflow_mul-result g c =
    let low = header_low (whole_of c.args.found.piece) c.args.found.number c.start_in-start.result c.start_in-start.ensures in
    omega (arith, low, c.requires.place, c.requires.low)

pub put_first-requires-clause-ordered : goal.put_first-requires-clause-ordered
put_first-requires-clause-ordered g c =
    (start_fits (whole_of c.args.found.piece) c.args.found.number c.start_in-start.result _ c.in-Some.sequence c.start_in-start.ensures (sym c.cuttable.ensures ∙ c.in-Some.is)).ordered

pub put_first-requires-clause-within : goal.put_first-requires-clause-within
put_first-requires-clause-within g c =
    let f = start_fits (whole_of c.args.found.piece) c.args.found.number c.start_in-start.result _ c.in-Some.sequence c.start_in-start.ensures (sym c.cuttable.ensures ∙ c.in-Some.is) in
    omega (arith, f.within, whole_length c.args.found.piece c.requires.piece)

pub put_behind-requires-clause-begun : goal.put_behind-requires-clause-begun
put_behind-requires-clause-begun g c = c.in_ok-second.ensures.begun

pub returns-in_err-bytes-clause-err : goal.returns-in_err-bytes-clause-err
returns-in_err-bytes-clause-err g c = λ from first le found.
    let p = err_from_is_err_and c.from_residual-in_err-bytes.result c.from_residual-in_err-bytes.ensures.1 in
    rw (p.1, p.2)
    (head_failed g.S.Source.left g.S.Source.faults g.K.Sink.held g.K.Sink.faults first c.args.input.now c.second_piece.new.input c.args.output.now c.put_first.new.output from c.args.count _ _ c.args.found c.start_in-start.result c.in_ok-second.second c.in-Some.sequence _ c.requires.count found c.in_ok-second.ensures.ok c.start_in-start.ensures
    (sym c.cuttable.ensures ∙ c.in-Some.is) (cuts_named _ _ c.in_err-bytes.field-0.0 c.in_err-bytes.ensures.err))

pub returns-in_err-second-clause-err : goal.returns-in_err-second-clause-err
returns-in_err-second-clause-err g c = λ from first le found.
    let p = err_from_is_err_and c.from_residual.result c.from_residual.ensures.1 in
    rw (p.1, p.2)
    (second_failed g.S.Source.left g.S.Source.faults from c.args.count first c.args.input.now c.second_piece.new.input (change g.K.Sink.held g.K.Sink.faults c.args.output.now c.args.output.now) c.args.cutter.now c.args.found c.start_in-start.result c.in_err-second.field-0.0 c.requires.count le found c.start_in-start.ensures
    c.in_err-second.ensures.field refl c.in_err-second.ensures.err)

pub returns-in_default-clause-err : goal.returns-in_default-clause-err
returns-in_default-clause-err g c = λ from first le found.
    refused_told g.S.Source.left g.S.Source.faults first c.args.input.now c.second_piece.new.input from c.args.count _ (change g.K.Sink.held g.K.Sink.faults c.args.output.now c.args.output.now) c.args.cutter.now c.second_piece.new.cutter c.args.found c.start_in-start.result c.in_ok-second.second found c.in_ok-second.ensures.ok c.start_in-start.ensures
    (sym c.cuttable.ensures ∙ is_none c.cuttable.result c.in_default.not-Some) refl refl

pub returns-in_err-put_behind-clause-err : goal.returns-in_err-put_behind-clause-err
returns-in_err-put_behind-clause-err g c = λ from first le found.
    let p = err_from_is_err_and c.from_residual-in_err-put_behind.result c.from_residual-in_err-put_behind.ensures.1 in
    let heads = c.put_first.ensures.output in
    let reads = c.second_piece.ensures.input in
    rw (p.1, p.2)
    (behind_failed g.S.Source.left g.S.Source.faults g.K.Sink.held g.K.Sink.faults first c.args.input.now c.second_piece.new.input c.put_behind.new.input c.args.output.now c.put_first.new.output c.put_behind.new.output from c.args.count c.args.cutter.now c.second_piece.new.cutter c.args.found
    c.start_in-start.result c.in_ok-second.second c.in-Some.sequence c.in_err-put_behind.field-0.0 (omega (arith, le, reads)) heads.counts found c.in_ok-second.ensures.ok c.start_in-start.ensures (sym c.cuttable.ensures ∙ c.in-Some.is) c.in_ok-bytes.ensures.grown
    (subst (λ (k : ℕ). BehindFails (piece_list c.in_ok-second.second) k 1 (change g.S.Source.left g.S.Source.faults c.second_piece.new.input c.put_behind.new.input) (change g.K.Sink.held g.K.Sink.faults c.put_first.new.output c.put_behind.new.output) c.second_piece.new.cutter c.in_err-put_behind.field-0.0) c.from.ensures c.in_err-put_behind.ensures.err))

pub returns-in_err-put-clause-err : goal.returns-in_err-put-clause-err
returns-in_err-put-clause-err g c = λ from first le found.
    let p = err_from_is_err_and c.from_residual-in_err-put.result c.from_residual-in_err-put.ensures.1 in
    let heads = c.put_first.ensures.output in
    let others = c.put_behind.ensures.output in
    rw (p.1, p.2)
    (end_failed g.S.Source.left g.S.Source.faults g.K.Sink.held g.K.Sink.faults first c.args.input.now c.second_piece.new.input c.put_behind.new.input c.args.output.now c.put_first.new.output c.put_behind.new.output c.put.new.output from c.args.count c.in_ok-bytes.bytes c.args.cutter.now c.second_piece.new.cutter c.put_behind.new.cutter c.args.found
    c.start_in-start.result c.in_ok-second.second c.in-Some.sequence c.put_behind.new.copied _ (omega (arith, heads.counts, others.counts)) found c.in_ok-second.ensures.ok c.start_in-start.ensures (sym c.cuttable.ensures ∙ c.in-Some.is) c.in_ok-bytes.ensures.grown
    (subst (λ (k : ℕ). BehindPut (piece_list c.in_ok-second.second) k (record { groups = 1; bytes = c.in_ok-bytes.bytes }) c.put_behind.new.copied (change g.S.Source.left g.S.Source.faults c.second_piece.new.input c.put_behind.new.input) (change g.K.Sink.held g.K.Sink.faults c.put_first.new.output c.put_behind.new.output) c.second_piece.new.cutter c.put_behind.new.cutter) c.from.ensures c.in_ok-put_behind.ensures.put) (cuts_named _ _ c.in_err-put.field-0.0 c.in_err-put.ensures.err))

pub returns-clause-ok : goal.returns-clause-ok
returns-clause-ok g c = λ from first found.
    let written = c.in_ok-bytes.ensures.bytes in
    let was = c.in_ok-bytes.was in
    let bytes : c.in_ok-bytes.bytes ≡ c.args.found.piece.length - c.in-Some.sequence = cc in
    whole_told g.S.Source.left g.S.Source.faults g.K.Sink.held g.K.Sink.faults first c.args.input.now c.second_piece.new.input c.put_behind.new.input c.args.output.now c.put_first.new.output c.put_behind.new.output c.put.new.output from c.args.count c.in_ok-bytes.bytes c.args.cutter.now c.second_piece.new.cutter c.put_behind.new.cutter c.args.found
    c.start_in-start.result c.in_ok-second.second c.in-Some.sequence c.put_behind.new.copied _ found c.in_ok-second.ensures.ok c.start_in-start.ensures (sym c.cuttable.ensures ∙ c.in-Some.is) bytes c.in_ok-bytes.ensures.grown
    (subst (λ (k : ℕ). BehindPut (piece_list c.in_ok-second.second) k (record { groups = 1; bytes = c.in_ok-bytes.bytes }) c.put_behind.new.copied (change g.S.Source.left g.S.Source.faults c.second_piece.new.input c.put_behind.new.input) (change g.K.Sink.held g.K.Sink.faults c.put_first.new.output c.put_behind.new.output) c.second_piece.new.cutter c.put_behind.new.cutter) c.from.ensures c.in_ok-put_behind.ensures.put) c.in_ok-put.ensures.grown refl
