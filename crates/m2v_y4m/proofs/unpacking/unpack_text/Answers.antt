use Rattle.std.proofs.Common.{refl, ap, ◌*◌, ℕ, arith, inl}
use Rattle.std.proofs.lemmas.Result.{err_from_is_err_and}
use Rattle.m2v_port.specs.Ends.{change}
use Rattle.m2v_y4m.specs.Answers.{UnpackStops, OpenStops, UnpackLost, UnpackBroken}
use Rattle.m2v_y4m.proofs.UnpackTexts.{all_unpacked, none_read, unpack_stops}
use Rattle.m2v_y4m.proofs.SizeLaws.{size_some}
use Rattle.m2v_y4m.proofs.unpacking.unpack_text.Goals as goal

pub returns-in-Err-Read-clause-err : goal.returns-in-Err-Read-clause-err
unfolding UnpackStops OpenStops
returns-in-Err-Read-clause-err g c =
    let e = rw c.in-Err-Read.field-0-is at c.in-Err-Read.ensures.err in
    (e.0, UnpackLost.unopened e.1 refl)

pub returns-in-Err-Y4m-clause-err : goal.returns-in-Err-Y4m-clause-err
unfolding UnpackStops OpenStops
returns-in-Err-Y4m-clause-err g c =
    let e = rw c.in-Err-Y4m.field-0-is at c.in-Err-Y4m.ensures.err in
    rw c.in-Err-Y4m.field-0-is (UnpackBroken.in_header e.0 e.1 refl)

pub returns-in-Err-Memory-clause-err : goal.returns-in-Err-Memory-clause-err
unfolding UnpackStops OpenStops
returns-in-Err-Memory-clause-err g c = inl (UnpackLost.unopened (rw c.in-Err-Memory.field-0-is at c.in-Err-Memory.ensures.err) refl)

pub returns-in_default-clause-err : goal.returns-in_default-clause-err
unfolding UnpackStops
returns-in_default-clause-err g c =
    inl (none_read (change g.S.Source.left g.S.Source.faults c.args.input.now c.open.new.inner) (change g.K.Sink.held g.K.Sink.faults c.args.output.now c.args.output.now)
    c.in-Ok.reader (size_some _ c.in-Ok.ensures.header) c.in-Ok.ensures.opened refl)

pub returns-in_err-frames-clause-err : goal.returns-in_err-frames-clause-err
returns-in_err-frames-clause-err g c =
    let p = err_from_is_err_and c.from_residual.result c.from_residual.ensures.1 in
    rw (p.1, p.2) (unpack_stops g.S.Source.left g.S.Source.faults g.K.Sink.held g.K.Sink.faults c.in-Ok.reader _ c.args.input.now c.open.new.inner c.unpack_frames-answer.new.input _ _ _
    (size_some _ c.in-Ok.ensures.header) c.in-Ok.ensures.opened (omega (arith, c.ahead-ahead.ensures.value, c.ahead-ahead.ensures.most)) c.open.ensures.faults c.in_err-frames.ensures.err)

pub returns-clause-ok : goal.returns-clause-ok
returns-clause-ok g c =
    let e = c.in_ok-frames.ensures in
    all_unpacked c.in-Ok.reader _ (change g.S.Source.left g.S.Source.faults c.args.input.now c.unpack_frames-answer.new.input)
    (change g.S.Source.left g.S.Source.faults c.open.new.inner c.unpack_frames-answer.new.input)
    (change g.K.Sink.held g.K.Sink.faults c.args.output.now c.unpack_frames-answer.new.output) _ c.in_ok-frames.frames _
    (size_some _ c.in-Ok.ensures.header) c.in-Ok.ensures.opened.opens e.most e.ok refl
    (ap (λ (n : ℕ). record { frames = c.in_ok-frames.frames; bytes = c.in_ok-frames.frames * n }) c.size-size.ensures.value)
