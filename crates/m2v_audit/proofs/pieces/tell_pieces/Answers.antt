use Rattle.std.proofs.Common.{Err, refl, ap, sym, ◌∙◌, arith}
use Rattle.m2v_port.proofs.Runs.{stays_here, stays_on}
use Rattle.m2v_strict.proofs.m2v_check.m2v_decode.EndLaws.{whole_length}
use Rattle.m2v_audit.proofs.TextSteps.{so_none, so_more, so_all, stops_on, cutter_stops, piece_stops}
use Rattle.m2v_audit.proofs.PieceTelling.{bytes_then, shut_then}
use Rattle.m2v_audit.proofs.FeedLaws.{cutter_is, begun_behind, waits_refused}
use Rattle.m2v_audit.proofs.pieces.tell_pieces.Goals as goal

pub loop-e-init : goal.loop-e-init
loop-e-init g c = rw c.requires.reader (record {
  so_far = so_none g.S.Source.left g.S.Source.faults g.K.Sink.held g.K.Sink.faults _ _ _ _ _;
  cutting = c.requires.going;
  waits = c.requires.waits;
  still = refl;
  sound = refl;
  counted = omega arith;
  shut = refl;
  bytes = c.requires.bytes;
  onward = omega arith;
  output = stays_here c.requires.output;
  input = omega arith;
})

pub returns-in-Err-clause-err : goal.returns-in-Err-clause-err
returns-in-Err-clause-err g c =
    let inv = c.loop-e.invariant in
    let so = inv.so_far in
    let x = c.in-Err.ensures in
    stops_on g.S.Source.left g.S.Source.faults g.K.Sink.held g.K.Sink.faults _ _ _ _ _ _ _ _ _ _ _ _ _ _ _ c.in-Err.e inv.input inv.output.counts c.requires.none inv.onward so
    (cutter_stops g.S.Source.left g.S.Source.faults g.K.Sink.held g.K.Sink.faults _ _ _ _ _ _ _ _ _ c.in-Err.e (λ e. x.failed (ap Err e)) x.kind x.err)

pub returns-in-Ok-None-clause-ok : goal.returns-in-Ok-None-clause-ok
returns-in-Ok-None-clause-ok g c =
    let inv = c.loop-e.invariant in
    let x = rw c.in-Ok-None.field-0-is at c.in-Ok-None.ensures.ok in
    let over = rw c.in-Ok-None.field-0-is at c.in-Ok-None.ensures.over in
    let onward = rw c.in-Ok-None.field-0-is at c.in-Ok-None.ensures.onward in
    so_all g.S.Source.left g.S.Source.faults g.K.Sink.held g.K.Sink.faults _ _ _ _ _ _ _ _ _ _ _ _ _ inv.so_far x over onward.1 onward.0 inv.still inv.sound

pub returns-in-Err-tell_piece-clause-err : goal.returns-in-Err-tell_piece-clause-err
returns-in-Err-tell_piece-clause-err g c =
    let inv = c.loop-e.invariant in
    let so = inv.so_far in
    let cutter = cutter_is c.next_piece.new.self c.next_piece.ensures.again in
    let x = rw (c.in-Ok-Some.field-0-is, cutter) at c.in-Ok-Some.ensures.ok in
    let begun = rw (c.in-Ok-Some.field-0-is, cutter) at c.in-Ok-Some.ensures.begun in
    let sound = rw c.in-Ok-Some.field-0-is at c.in-Ok-Some.ensures.sound in
    let onward = rw (c.in-Ok-Some.field-0-is, cutter) at c.in-Ok-Some.ensures.onward in
    let going = rw cutter at c.in-Ok-Some.ensures.going in
    let e = c.in-Err-tell_piece.e in
    rw (c.refused.ensures, c.is_begun.ensures)
    (stops_on g.S.Source.left g.S.Source.faults g.K.Sink.held g.K.Sink.faults _ _ _ _ _ _ _ _ _ _ _ _ _ _ _ e inv.input inv.output.counts c.requires.none inv.onward so
    (piece_stops g.S.Source.left g.S.Source.faults g.K.Sink.held g.K.Sink.faults _ _ _ _ _ _ _ _ _ so.decoder _ e x begun going sound onward.0 onward.1 (c.in-Err-tell_piece.ensures.err so.decoder so.follows)))

pub returns-in-Err-tell_piece-clause-waits : goal.returns-in-Err-tell_piece-clause-waits
returns-in-Err-tell_piece-clause-waits g c =
    let so = c.loop-e.invariant.so_far in
    let cutter = cutter_is c.next_piece.new.self c.next_piece.ensures.again in
    let x = rw (c.in-Ok-Some.field-0-is, cutter) at c.in-Ok-Some.ensures.ok in
    let begun = rw (c.in-Ok-Some.field-0-is, cutter) at c.in-Ok-Some.ensures.begun in
    let sound = rw c.in-Ok-Some.field-0-is at c.in-Ok-Some.ensures.sound in
    let onward = rw (c.in-Ok-Some.field-0-is, cutter) at c.in-Ok-Some.ensures.onward in
    rw (c.refused.ensures, c.is_begun.ensures)
    (waits_refused c.in-Ok-Some.piece _ _ _ _ x sound begun onward.1 so.decoder _ _ _ c.in-Err-tell_piece.e (c.in-Err-tell_piece.ensures.err so.decoder so.follows) (begun_behind _ _ _ _ _ _ _ so.decoder c.requires.none so.some))

pub loop-e-preserved : goal.loop-e-preserved
loop-e-preserved g c =
    let inv = c.loop-e.invariant in
    let so = inv.so_far in
    let x = rw c.in-Ok-Some.field-0-is at c.in-Ok-Some.ensures.ok in
    let begun = rw c.in-Ok-Some.field-0-is at c.in-Ok-Some.ensures.begun in
    let sound = rw c.in-Ok-Some.field-0-is at c.in-Ok-Some.ensures.sound in
    let onward = rw c.in-Ok-Some.field-0-is at c.in-Ok-Some.ensures.onward in
    let told = c.in-Ok.ensures.ok in
    let leads = told.leads so.decoder so.follows in
    let advanced = leads.advanced in
    let then = leads.follows in
    let whole = whole_length c.in-Ok-Some.piece sound in
    record {
      so_far = so_more g.S.Source.left g.S.Source.faults g.K.Sink.held g.K.Sink.faults _ _ _ _ _ _ _ _ _ _ _ _ _ _ _ _ _ so x begun sound inv.onward onward.0 onward.1 told;
      cutting = c.in-Ok-Some.ensures.going;
      waits = rw c.next_piece.ensures.again tt;
      still = sym then.ended ∙ advanced.going;
      sound = sym then.failed ∙ advanced.sound;
      counted = let before = so.follows.pictures in omega (arith, inv.counted, before, then.pictures, advanced.counted, advanced.few, whole, onward.0, onward.1);
      shut = shut_then _ _ c.in-Ok-Some.piece told.notes so.decoder so.follows inv.shut leads;
      bytes =
          let added = bytes_then _ _ _ _ c.in-Ok-Some.piece _ told in
          omega (arith, inv.bytes, added, whole, onward.0, onward.1);
      onward = omega (arith, inv.onward, onward.0, onward.1);
      output = stays_on inv.output c.tell_piece.ensures.output;
      input = omega (arith, inv.input, c.next_piece.ensures.faults);
    }
