use Rattle.std.proofs.Common.{refl, subst, ap, sym, ◌∙◌, ◌≡◌, ◌<◌, ℕ, Option, true, false, inr}
use Rattle.std.specs.Prelude.{is_some}
use Rattle.std.proofs.lemmas.Result.{err_from_is_err_and}
use Rattle.m2v_port.specs.Ends.{change}
use Rattle.m2v_plane.specs.Samples.{Samples}
use Rattle.m2v_order.specs.Groups.{Queue, Group, is_due, first_of, anchor_before, after_end, IsSoundQueue}
use Rattle.m2v_order.specs.Whole.{handed}
use Rattle.m2v_order.proofs.Queues.{sound_end, true_false}
use Rattle.m2v_encode.specs.Steps.{GoesOn, EndStops}
use Rattle.m2v_encode.proofs.Due.{before_is, early_is, group_out}
use Rattle.m2v_encode.proofs.Ends.{end_code, end_group_by, end_put_by, end_all_by, none_false}
use Rattle.m2v_encode.proofs.group.Coder.finish.Goals as goal

pub measured-requires-clause-early : goal.measured-requires-clause-early
measured-requires-clause-early g c =
    let h = c.in-Ok-Some.ensures in
    let is = c.in-Ok-Some.field-0-is in
    early_is c.end.new.self c.in-Ok-Some.group.pictures.items c.in-Ok-Some.group.frames.items
    (subst IsSoundQueue (sym c.end.ensures.value) (sound_end c.args.queue.now c.requires.sound))
    (subst (λ (q : Queue Samples). q.pushed < 1000000) (sym c.end.ensures.value) c.requires.pushed) (rw is at h.frames) (rw is at h.places)

pub returns-in_default-clause-err : goal.returns-in_default-clause-err
unfolding EndStops
returns-in_default-clause-err g c = inr (refl, (refl, (refl, refl)))

pub code_last-requires-clause-going : goal.code_last-requires-clause-going
code_last-requires-clause-going g c = λ κs l.
    let h = c.in-Ok-Some.ensures in
    let is = c.in-Ok-Some.field-0-is in
    let out = group_out c.args.self.now.settings c.end.new.self c.next_group.new.self c.in-Ok-Some.group c.in-Ok.last ((rw is at h.due).0 refl) (rw is at h.frames) (rw is at h.pictures) (rw is at h.before) (rw is at h.rest)
    c.in-Ok.ensures.group c.in-Ok.ensures.code in
    subst (λ (o : Option ℕ). GoesOn c.args.self.now (is_some o))
    (sym (before_is c.end.new.self c.in-Ok.last.group.before (ap (λ (x : Group Samples). x.before) out.is) ∙ ap (λ (q : Queue Samples). anchor_before (first_of q)) c.end.ensures.value)) c.requires.going

pub returns-in_err-code_last-in-Ok-Some-clause-err : goal.returns-in_err-code_last-in-Ok-Some-clause-err
returns-in_err-code_last-in-Ok-Some-clause-err g c =
    let p = err_from_is_err_and c.from_residual.result c.from_residual.ensures.1 in
    let output = change g.K.Sink.held g.K.Sink.faults c.args.output.now c.code_last.new.output in
    let recon = change g.N.Sink.held g.N.Sink.faults c.args.recon.now c.code_last.new.recon in
    let h = c.in-Ok-Some.ensures in
    let is = c.in-Ok-Some.field-0-is in
    let out = group_out c.args.self.now.settings c.end.new.self c.next_group.new.self c.in-Ok-Some.group c.in-Ok.last ((rw is at h.due).0 refl) (rw is at h.frames) (rw is at h.pictures) (rw is at h.before) (rw is at h.rest)
    c.in-Ok.ensures.group c.in-Ok.ensures.code in
    rw (p.1, p.2)
    (end_group_by c.args.self.now c.end.new.self (after_end c.args.queue.now) (handed c.in-Ok.last.group) output recon _ c.end.ensures.value out.due out.is c.in_err-code_last-in-Ok-Some.ensures.err)

pub returns-in_err-put_bytes-in-Ok-Some-clause-err : goal.returns-in_err-put_bytes-in-Ok-Some-clause-err
returns-in_err-put_bytes-in-Ok-Some-clause-err g c =
    let p = err_from_is_err_and c.from_residual-in_err-put_bytes-in-Ok-Some.result c.from_residual-in_err-put_bytes-in-Ok-Some.ensures.1 in
    let h = c.in-Ok-Some.ensures in
    let is = c.in-Ok-Some.field-0-is in
    let out = group_out c.args.self.now.settings c.end.new.self c.next_group.new.self c.in-Ok-Some.group c.in-Ok.last ((rw is at h.due).0 refl) (rw is at h.frames) (rw is at h.pictures) (rw is at h.before) (rw is at h.rest)
    c.in-Ok.ensures.group c.in-Ok.ensures.code in
    rw (p.1, p.2)
    (end_put_by g.K.Sink.held g.K.Sink.faults g.N.Sink.held g.N.Sink.faults c.args.self.now c.code_last.new.self c.end.new.self (after_end c.args.queue.now) (handed c.in-Ok.last.group) _ _ _ _ _ _ _ c.end.ensures.value out.due out.is end_code
    c.code_last.ensures.output.counts c.in_ok-code_last-in-Ok-Some.ensures.coded c.in_err-put_bytes-in-Ok-Some.ensures.put.err)

pub returns-in_ok-put_bytes-in-Ok-Some-clause-coded : goal.returns-in_ok-put_bytes-in-Ok-Some-clause-coded
returns-in_ok-put_bytes-in-Ok-Some-clause-coded g c =
    let h = c.in-Ok-Some.ensures in
    let is = c.in-Ok-Some.field-0-is in
    let out = group_out c.args.self.now.settings c.end.new.self c.next_group.new.self c.in-Ok-Some.group c.in-Ok.last ((rw is at h.due).0 refl) (rw is at h.frames) (rw is at h.pictures) (rw is at h.before) (rw is at h.rest)
    c.in-Ok.ensures.group c.in-Ok.ensures.code in
    end_all_by g.K.Sink.held g.K.Sink.faults g.N.Sink.held g.N.Sink.faults c.args.frames c.args.self.now c.code_last.new.self c.end.new.self (after_end c.args.queue.now) (handed c.in-Ok.last.group) _ _ _ _ _ _ _ c.end.ensures.value out.is end_code
    c.in_ok-code_last-in-Ok-Some.ensures.coded c.in_ok-put_bytes-in-Ok-Some.ensures.put.grown refl

pub returns-in-Ok-None-clause-err : goal.returns-in-Ok-None-clause-err
unfolding EndStops
returns-in-Ok-None-clause-err g c =
    let none = rw c.in-Ok-None.field-0-is at c.in-Ok-None.ensures.due in
    (subst (λ (q : Queue Samples). is_due q ≡ false) c.end.ensures.value (none_false (is_due c.end.new.self) (λ e. true_false true refl (sym (none.1 e)))), (refl, refl))

pub returns-in-Err-clause-err : goal.returns-in-Err-clause-err
unfolding EndStops
returns-in-Err-clause-err g c = inr (refl, (refl, (refl, refl)))
