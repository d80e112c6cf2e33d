use Rattle.std.proofs.Common.{Err, refl, ap, arith}
use Rattle.std.proofs.lemmas.Result.{err_from_is_err_and}
use Rattle.m2v_port.proofs.Runs.{rose_since, stays_here, stays_on}
use Rattle.m2v_decode.proofs.EndLaws.{whole_length}
use Rattle.m2v_decode.proofs.Going.{progress_none, progress_more, cutter_stopped, piece_refused, put_stopped, pieces_done}
use Rattle.m2v_decode.proofs.whole.read_pieces.Goals as goal

pub loop-e-init : goal.loop-e-init
loop-e-init g c = rw (c.requires.cutter, c.requires.decoder) (record {
  progress = progress_none g.S.Source.left g.S.Source.faults g.K.Sink.held g.K.Sink.faults _ _;
  cutting = refl;
  counted = omega arith;
  most = omega arith;
  output = stays_here c.requires.output;
  input = omega arith;
})

pub returns-in-Err-clause-err : goal.returns-in-Err-clause-err
returns-in-Err-clause-err g c =
    let inv = c.loop-e.invariant in
    let x = c.in-Err.ensures in
    cutter_stopped g.S.Source.left g.S.Source.faults g.K.Sink.held g.K.Sink.faults _ _ _ _ _ _ _ c.in-Err.e (λ e. rose_since inv.input (x.failed (ap Err e))) x.kind inv.progress x.err

pub returns-in-Ok-None-clause-ok : goal.returns-in-Ok-None-clause-ok
returns-in-Ok-None-clause-ok g c =
    let x = rw c.in-Ok-None.field-0-is at c.in-Ok-None.ensures.ok in
    let over = rw c.in-Ok-None.field-0-is at c.in-Ok-None.ensures.over in
    let onward = rw c.in-Ok-None.field-0-is at c.in-Ok-None.ensures.onward in
    pieces_done g.S.Source.left g.S.Source.faults g.K.Sink.held g.K.Sink.faults _ _ _ _ _ _ _ _ c.loop-e.invariant.progress x over onward.1

pub returns-in_err-piece-in-Ok-Some-clause-err : goal.returns-in_err-piece-in-Ok-Some-clause-err
returns-in_err-piece-in-Ok-Some-clause-err g c =
    let x = rw c.in-Ok-Some.field-0-is at c.in-Ok-Some.ensures.ok in
    let begun = rw c.in-Ok-Some.field-0-is at c.in-Ok-Some.ensures.begun in
    let keeps = c.in-Ok-Some.ensures.taken in
    let p = err_from_is_err_and c.from_residual.result c.from_residual.ensures.1 in
    rw (p.1, p.2)
    (piece_refused g.S.Source.left g.S.Source.faults g.K.Sink.held g.K.Sink.faults _ _ _ _ _ _ _ _ _ c.in_err-piece-in-Ok-Some.field-0.0
    c.loop-e.invariant.progress x begun (rw c.in-Ok-Some.field-0-is at c.in-Ok-Some.ensures.sound) c.in_err-piece-in-Ok-Some.ensures.err)

pub returns-in_err-put_due-in-Ok-Some-clause-err : goal.returns-in_err-put_due-in-Ok-Some-clause-err
returns-in_err-put_due-in-Ok-Some-clause-err g c =
    let inv = c.loop-e.invariant in
    let x = rw c.in-Ok-Some.field-0-is at c.in-Ok-Some.ensures.ok in
    let begun = rw c.in-Ok-Some.field-0-is at c.in-Ok-Some.ensures.begun in
    let keeps = c.in-Ok-Some.ensures.taken in
    let p = err_from_is_err_and c.from_residual-in_err-put_due-in-Ok-Some.result c.from_residual-in_err-put_due-in-Ok-Some.ensures.1 in
    rw (p.1, p.2)
    (put_stopped g.S.Source.left g.S.Source.faults g.K.Sink.held g.K.Sink.faults _ _ _ _ _ _ _ _ _ _ _ _ c.in_err-put_due-in-Ok-Some.field-0.0 inv.output.counts
    inv.progress x begun keeps c.in_ok-piece-in-Ok-Some.ensures.ok c.in_err-put_due-in-Ok-Some.ensures.err)

pub loop-e-preserved : goal.loop-e-preserved
loop-e-preserved g c =
    let inv = c.loop-e.invariant in
    let x = rw c.in-Ok-Some.field-0-is at c.in-Ok-Some.ensures.ok in
    let begun = rw c.in-Ok-Some.field-0-is at c.in-Ok-Some.ensures.begun in
    let keeps = c.in-Ok-Some.ensures.taken in
    let sound = rw c.in-Ok-Some.field-0-is at c.in-Ok-Some.ensures.sound in
    let onward = rw c.in-Ok-Some.field-0-is at c.in-Ok-Some.ensures.onward in
    let advanced = c.in_ok-piece-in-Ok-Some.ensures.ok in
    let put = c.in_ok-put_due-in-Ok-Some.ensures.put in
    record {
      progress = progress_more g.S.Source.left g.S.Source.faults g.K.Sink.held g.K.Sink.faults _ _ _ _ _ _ _ _ _ _ _ _ _ inv.progress x begun keeps advanced put c.in_ok-put_due-in-Ok-Some.ensures.grown;
      cutting = c.in-Ok-Some.ensures.going;
      counted = omega (arith, inv.counted, put.pictures, advanced.counted, advanced.few, whole_length c.in-Ok-Some.piece sound, onward.0, onward.1);
      most = omega (arith, onward.1, sound.end);
      output = stays_on inv.output c.put_due.ensures.output;
      input = omega (arith, inv.input, c.next_piece.ensures.faults);
    }
