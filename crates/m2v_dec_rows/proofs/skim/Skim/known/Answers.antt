use Rattle.std.proofs.Common.{◌≡◌, ◌-◌, ◌∙◌, true, refl, sym}
use Rattle.m2v_model.specs.Streams.{value_of, unread_slice}
use Rattle.m2v_dec_unit.specs.Among.{is_slice}
use Rattle.m2v_dec_rows.proofs.UnitSteps.{slice_ok, slice_err, slice_value, unread_reads}
use Rattle.m2v_dec_rows.proofs.StateLaws.{open_there}
use Rattle.m2v_dec_rows.proofs.Standing.{start_within}
use Rattle.m2v_dec_rows.proofs.FrontLaws.{passed_slice}
use Rattle.m2v_dec_rows.proofs.skim.Skim.known.Goals as goal

pub pass_over-requires-clause-start : goal.pass_over-requires-clause-start
pass_over-requires-clause-start c = start_within c.args.piece.now c.args.u.now c.args.units.now c.args.start c.requires.piece c.requires.ends c.requires.start

pub returns-in-Err : goal.returns-in-Err
returns-in-Err c =
    let st = c.args.self.now.state in
    let u = c.args.u.now in
    let us = c.args.units.now in
    let row : c.from-row.result ≡ value_of u = c.from-row.ensures ∙ c.value.ensures in
    let on : is_slice st (value_of u) ≡ true = sym c.is_slice.ensures ∙ c.if-not-is_slice.false in
    let stop = c.in-Err.stop in
    (slice_err st c.args.start (value_of u) u us (stop.kind, stop.left) on (rw (← row) (c.in-Err.ensures.err u us)), refl)

pub returns-in_ok-pass_over-in-Ok : goal.returns-in_ok-pass_over-in-Ok
returns-in_ok-pass_over-in-Ok c =
    let p = c.args.piece.now in
    let old = c.args.self.now in
    let st = old.state in
    let u = c.args.u.now in
    let us = c.args.units.now in
    let at = c.in-Ok.ensures.ok in
    let x = c.in-Ok.field-0 in
    let row : c.from-row.result ≡ value_of u = c.from-row.ensures ∙ c.value.ensures in
    let on : is_slice st (value_of u) ≡ true = sym c.is_slice.ensures ∙ c.if-not-is_slice.false in
    let n = c.from-row.result - 1 in
    let unread = open_there st x.0 x.1 c.requires.sound.state at.0 at.1 in
    let value = slice_value st (value_of u) on in (
      unread_slice n u,
      slice_ok st c.args.start (value_of u) u us (unread_slice n u) on (rw (← row) (unread_reads st x.0 x.1 n c.args.start u us at.0 at.1 at.2 at.3 unread)),
      passed_slice p old c.pass_over.new.self x.0 x.1 n c.args.start u us c.requires.piece c.requires.sound at.0 at.1 at.2 c.requires.ends c.requires.start value c.requires.long c.in_ok-pass_over-in-Ok.ensures,
    )
