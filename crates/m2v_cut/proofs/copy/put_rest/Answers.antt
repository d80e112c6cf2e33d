use Rattle.std.proofs.Common.{◌≡◌, ◌+◌, length, Err, refl, sym, ap, subst, arith}
use Rattle.std.proofs.lemmas.Result.{err_from_is_err_and}
use Rattle.m2v_port.specs.Ends.{change}
use Rattle.m2v_port.proofs.Runs.{rose_since, stays_here, stays_on}
use Rattle.m2v_decode.proofs.EndLaws.{whole_length}
use Rattle.m2v_model.specs.Units.{joined}
use Rattle.m2v_decode.specs.Decoding.{whole_of}
use Rattle.m2v_cut.specs.declared.copy.Copied.{Copied}
use Rattle.m2v_cut.specs.Answers.{units_of}
use Rattle.m2v_cut.specs.Progress.{RestFails}
use Rattle.m2v_cut.proofs.Onwards.{put_none, put_more, put_over, put_stops, read_stopped, put_stopped, units_length}
use Rattle.m2v_cut.proofs.copy.put_rest.Goals as goal

pub loop-e-init : goal.loop-e-init
loop-e-init g c = record {
  putting = put_none g.S.Source.left g.S.Source.faults g.K.Sink.held g.K.Sink.faults c.args.most _ _ _ _ c.requires.begun c.requires.few;
  cutting = c.requires.going;
  few = c.requires.few;
  room = c.requires.room;
  most = c.requires.low;
  output = stays_here c.requires.output;
  input = omega arith;
}

pub returns-in-Err-clause-err : goal.returns-in-Err-clause-err
returns-in-Err-clause-err g c =
    let inv = c.loop-e.invariant in
    let x = c.in-Err.ensures in
    subst (RestFails c.args.most c.args.copied.now.groups (change g.S.Source.left g.S.Source.faults c.args.input.now c.next_piece.new.input) (change g.K.Sink.held g.K.Sink.faults c.args.output.now c.loop-e.output) c.args.cutter.now) (sym c.reading.ensures)
    (read_stopped g.S.Source.left g.S.Source.faults g.K.Sink.held g.K.Sink.faults c.args.most _ _ _ _ _ _ _ _ _ c.in-Err.e (λ e. rose_since inv.input (x.failed (ap Err e))) x.kind inv.putting x.err)

pub returns-in-Ok-None-clause-put : goal.returns-in-Ok-None-clause-put
returns-in-Ok-None-clause-put g c =
    let inv = c.loop-e.invariant in
    let x = rw c.in-Ok-None.field-0-is at c.in-Ok-None.ensures.ok in
    let over = rw c.in-Ok-None.field-0-is at c.in-Ok-None.ensures.over in
    put_over g.S.Source.left g.S.Source.faults g.K.Sink.held g.K.Sink.faults c.args.most _ _ _ _ _ _ _ _ _ _ inv.putting x over c.in-Ok-None.ensures.taken

pub returns-in_err-put_next-in-Ok-Some-clause-err : goal.returns-in_err-put_next-in-Ok-Some-clause-err
returns-in_err-put_next-in-Ok-Some-clause-err g c =
    let inv = c.loop-e.invariant in
    let x = rw c.in-Ok-Some.field-0-is at c.in-Ok-Some.ensures.ok in
    let begun = rw c.in-Ok-Some.field-0-is at c.in-Ok-Some.ensures.begun in
    let p = err_from_is_err_and c.from_residual.result c.from_residual.ensures.1 in
    rw (p.1, p.2)
    (put_stopped g.S.Source.left g.S.Source.faults g.K.Sink.held g.K.Sink.faults c.args.most _ c.loop-e.copied _ _ _ _ _ _ _ _ _ c.in-Ok-Some.piece c.in_err-put_next-in-Ok-Some.field-0.0 inv.output.counts inv.putting x begun c.in-Ok-Some.ensures.taken c.in_err-put_next-in-Ok-Some.ensures.err)

pub returns-then-not-branch-clause-put : goal.returns-then-not-branch-clause-put
returns-then-not-branch-clause-put g c =
    let inv = c.loop-e.invariant in
    let x = rw c.in-Ok-Some.field-0-is at c.in-Ok-Some.ensures.ok in
    let begun = rw c.in-Ok-Some.field-0-is at c.in-Ok-Some.ensures.begun in
    let put = rw c.if-not-branch.true at c.in_ok-put_next-in-Ok-Some.ensures.put in
    put_stops g.S.Source.left g.S.Source.faults g.K.Sink.held g.K.Sink.faults c.args.most _ c.loop-e.copied c.put_next.new.copied _ _ _ _ _ _ _ _ _ _ c.in-Ok-Some.piece inv.putting x begun c.in-Ok-Some.ensures.taken put refl

pub loop-e-preserved : goal.loop-e-preserved
loop-e-preserved g c =
    let inv = c.loop-e.invariant in
    let x = rw c.in-Ok-Some.field-0-is at c.in-Ok-Some.ensures.ok in
    let begun = rw c.in-Ok-Some.field-0-is at c.in-Ok-Some.ensures.begun in
    let sound = rw c.in-Ok-Some.field-0-is at c.in-Ok-Some.ensures.sound in
    let onward = rw c.in-Ok-Some.field-0-is at c.in-Ok-Some.ensures.onward in
    let put = rw c.if-not-branch.false at c.in_ok-put_next-in-Ok-Some.ensures.put in
    let bytes : (c.put_next.new.copied).bytes ≡ (c.loop-e.copied).bytes + length (joined (units_of (whole_of c.in-Ok-Some.piece))) = ap (λ (x : Copied). x.bytes) put.0 in
    record {
      putting = put_more g.S.Source.left g.S.Source.faults g.K.Sink.held g.K.Sink.faults c.args.most _ c.loop-e.copied c.put_next.new.copied _ _ _ _ _ _ _ _ _ c.in-Ok-Some.piece inv.putting x begun c.in-Ok-Some.ensures.taken put;
      cutting = c.in-Ok-Some.ensures.going;
      few = put.1;
      room = omega (arith, bytes, inv.room, units_length (whole_of c.in-Ok-Some.piece), whole_length c.in-Ok-Some.piece sound, onward.0, onward.1);
      most = omega (arith, onward.1, sound.end);
      output = stays_on inv.output c.put_next.ensures.output;
      input = omega (arith, inv.input, c.next_piece.ensures.faults);
    }
