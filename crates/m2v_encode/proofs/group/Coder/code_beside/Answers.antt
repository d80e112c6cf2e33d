use Rattle.std.proofs.Common.{◌∙◌, ◌*◌, ◌+◌, ◌<◌, inl, inr, refl, ap, sym, subst, length, arith}
use Rattle.std.proofs.lemmas.Result.{err_from_is_err_and, IfErr-weaker}
use Rattle.m2v_plane.specs.declared.dims.Dims.{Dims}
use Rattle.m2v_plane.specs.Raw.{frame_bytes}
use Rattle.m2v_rate.specs.Plans.{account_at}
use Rattle.m2v_order.specs.Whole.{handed}
use Rattle.m2v_encode.specs.declared.answer.Summary.{Summary}
use Rattle.m2v_encode.specs.Groups.{whole_ledger, IsPlace}
use Rattle.m2v_encode.proofs.Due.{some_bytes}
use Rattle.m2v_encode.proofs.GroupLaws.{group_none, first_place, goes_on, coded_since, stops_since, on_ok}
use Rattle.m2v_encode.proofs.Readings.{ahead_is, ahead_none}
use Rattle.m2v_encode.proofs.group.Coder.code_beside.Goals as goal

pub returns-in_default-clause-err : goal.returns-in_default-clause-err
returns-in_default-clause-err g c =
    let some = subst (λ (d : Dims). 0 < frame_bytes d) c.dims-size.ensures.value (some_bytes c.dims-size.result c.dims-size.ensures.size) in
    let reads = c.requires.reads in
    inl (
      group_none g.K.Sink.held g.K.Sink.faults g.N.Sink.held g.N.Sink.faults _ _ _ _ _,
      ahead_none g.S.Source.left g.S.Source.faults c.args.intake.now.settings c.args.intake.now.queue c.args.input.now some (omega (arith, reads.count, reads.most)) reads.going,
    )

pub put_group-requires-clause-place : goal.put_group-requires-clause-place
put_group-requires-clause-place g c =
    let b = c.work_and_read-done.result.0 in
    subst (λ (t : Summary). IsPlace b.settings (account_at (whole_ledger b) 0) (8 * t.bytes)) (sym c.prepare.ensures.total)
    (first_place c.args.self.now (handed c.args.group.group) b _ (c.work_and_read-done.ensures.done ∙ c.in-Ok.ensures.value) c.requires.going)

pub returns-in_err-put_group-clause-err : goal.returns-in_err-put_group-clause-err
returns-in_err-put_group-clause-err g c =
    let p = err_from_is_err_and c.from_residual.result c.from_residual.ensures.1 in
    let some = subst (λ (d : Dims). 0 < frame_bytes d) c.dims-size.ensures.value (some_bytes c.dims-size.result c.dims-size.ensures.size) in
    rw (p.1, p.2)
    (inl (
      stops_since _ c.work_and_read-done.result.0 _ _ _ _ _ _ (c.work_and_read-done.ensures.done ∙ c.in-Ok.ensures.value) (ap (λ (t : Summary). 8 * t.bytes) c.prepare.ensures.total) c.in_err-put_group.ensures.err,
      ahead_is g.S.Source.left g.S.Source.faults c.args.intake.now c.work_and_read-done.new.intake c.args.input.now c.work_and_read-done.new.input c.work_and_read-done.result.1 some c.work_and_read-done.ensures.reads,
    ))

pub returns-clause-coded : goal.returns-clause-coded
returns-clause-coded g c =
    on_ok c.work_and_read-done.result.1
    (coded_since c.args.self.now c.prepare.new.self c.put_group.new.self _ c.work_and_read-done.result.0 _ _ _ c.prepare.ensures.settings c.prepare.ensures.total
    (c.work_and_read-done.ensures.done ∙ c.in-Ok.ensures.value) c.in_ok-put_group.ensures.coded)

pub returns-clause-going : goal.returns-clause-going
returns-clause-going g c =
    let coded = c.in_ok-put_group.ensures.coded in
    let b = c.work_and_read-done.result.0 in
    on_ok c.work_and_read-done.result.1
    (goes_on c.args.self.now c.put_group.new.self (handed c.args.group.group) b _ c.put_group.ensures.book (c.work_and_read-done.ensures.done ∙ c.in-Ok.ensures.value) c.requires.going
    (coded.settings ∙ c.prepare.ensures.settings) coded.ledger coded.before (coded.pictures ∙ ap (λ (t : Summary). t.pictures + length b.pictures) c.prepare.ensures.total)
    (c.in_ok-put_group.ensures.place refl))

pub returns-clause-err : goal.returns-clause-err
returns-clause-err g c =
    IfErr-weaker c.work_and_read-done.result.1 _ _
    (λ e h. inr (
      coded_since c.args.self.now c.prepare.new.self c.put_group.new.self _ c.work_and_read-done.result.0 _ _ _ c.prepare.ensures.settings c.prepare.ensures.total
          (c.work_and_read-done.ensures.done ∙ c.in-Ok.ensures.value) c.in_ok-put_group.ensures.coded,
      h,
    ))
    (c.work_and_read-done.ensures.reads).err
