use Rattle.std.proofs.Common.{◌≡◌, ℕ, Err, ap, sym, ◌∙◌}
use Rattle.std.proofs.lemmas.Result.{err_from_is_err_and}
use Rattle.m2v_model.specs.declared.state.State.{State}
use Rattle.m2v_model.specs.Streams.{value_of, slice, unread_slice}
use Rattle.m2v_dec_rows.proofs.UnitSteps.{unread_reads}
use Rattle.m2v_decode.proofs.PassLaws.{passes_slice}
use Rattle.m2v_decode.proofs.StepLaws.{slice_reads, slice_fails}
use Rattle.m2v_decode.proofs.pass.Pass.slice.Goals as goal

pub returns-then-p-clause-ok : goal.returns-then-p-clause-ok
returns-then-p-clause-ok c =
    let place = c.in_ok-s.ensures.ok in
    let row : c.from-row.result ≡ value_of c.args.u.now = c.from-row.ensures ∙ c.value.ensures in
    rw (← row) (
      unread_slice _ c.args.u.now,
      unread_reads c.args.self.now.state c.in_ok-s.s c.in_ok-s.p _ c.args.start c.args.u.now c.args.units.now place.0 place.1 place.2 place.3 c.if-p.true,
      c.pass_over.ensures c.args.u.now,
    )

pub returns-in_err-end-clause-err : goal.returns-in_err-end-clause-err
returns-in_err-end-clause-err c =
    let place = c.in_ok-s.ensures.ok in
    let row : c.from-row.result ≡ value_of c.args.u.now = c.from-row.ensures ∙ c.value.ensures in
    let p = err_from_is_err_and c.from_residual-in_err-end.result c.from_residual-in_err-end.ensures.1 in
    let e = c.in_err-end.field-0.0 in
    let told = c.in_err-end.ensures in
    rw (p.1, p.2) (rw (← row)
    (slice_fails c.args.self.now.state c.in_ok-s.s c.in_ok-s.p _ c.args.start c.args.u.now c.args.units.now e.kind told.0 place.0 place.1 place.2 place.3 c.if-p.false told.1
    ∙ ap (λ (n : ℕ). Err (e.kind, n)) (sym told.2)))

pub returns-clause-ok : goal.returns-clause-ok
returns-clause-ok c =
    let read = c.in_ok-end.ensures in
    let place = c.in_ok-s.ensures.ok in
    let mid = c.read_slice.new.self in
    let row : c.from-row.result ≡ value_of c.args.u.now = c.from-row.ensures ∙ c.value.ensures in
    rw (← row) (
      slice _ read.slice,
      slice_reads c.args.self.now.state c.in_ok-s.s c.in_ok-s.p _ c.args.start c.args.u.now c.args.units.now read.slice read.rest place.0 place.1 place.2 place.3 c.if-p.false read.read,
      passes_slice c.args.self.now mid _ c.in_ok-s.s c.in_ok-s.p _ c.args.u.now c.in_ok-end.end c.requires.sound place.0 place.1 read (ap (λ (z : State). record mid { state = z }) c.enter_slice.ensures),
    )
