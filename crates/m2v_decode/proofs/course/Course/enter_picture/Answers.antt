use Rattle.std.proofs.Common.{◌≡◌, true, [], refl, ap, sym, subst, ◌∙◌}
use Rattle.m2v_model.specs.declared.state.Open.{Open}
use Rattle.m2v_model.specs.declared.state.State.{State}
use Rattle.m2v_model.specs.States.{is_second_field_due}
use Rattle.m2v_decode.specs.Course.{Begun}
use Rattle.m2v_decode.proofs.FrameLaws.{first_at_hand}
use Rattle.m2v_decode.proofs.StepLaws.{none_open, steps_picture}
use Rattle.m2v_decode.proofs.course.Course.enter_picture.Goals as goal

pub begin-requires-clause-first : goal.begin-requires-clause-first
begin-requires-clause-first c =
    let mid = c.close.new.self in
    let closed = c.in_ok-close.ensures in
    let info = c.args.info.now in
    let extension = c.args.extension.now in
    let due = subst (λ (z : State). is_second_field_due z.waiting info extension ≡ true) (sym closed.state) c.requires.follows.1 in
    let is = c.opened-p.ensures in
    λ second read. first_at_hand mid.state info extension mid.gallery closed.sound.frames (none_open c.args.self.now mid closed) due
    (ap (λ (p : Open). p.second_field) (sym is) ∙ second) (ap (λ (p : Open). p.slices_unread) (sym is) ∙ read)

pub returns : goal.returns
returns c =
    let mid = c.close.new.self in
    let b = c.begin.new.self in
    let begun = subst (λ (p : Open). Begun mid p b) c.opened-p.ensures c.in_ok-begin.ensures in
    steps_picture c.args.self.now mid b _ c.args.info.now c.args.extension.now c.in_ok-close.ensures begun c.requires.fits c.requires.follows.0 c.requires.follows.1
    (record { anchor = refl; ready = refl; pictures = refl; dropped = refl; code_end = refl; shown = refl }) refl refl refl (c.enter.ensures.state [])
