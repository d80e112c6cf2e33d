use Rattle.std.proofs.Common.{false, Some, refl, ap, subst, ◌∙◌}
use Rattle.std.proofs.lemmas.Result.{on_ok_weaker}
use Rattle.m2v_model.specs.declared.state.Open.{Open}
use Rattle.m2v_model.specs.Pictures.{picture_begun}
use Rattle.m2v_dec_rows.specs.m2v_dec_picture.Frames.{store_of}
use Rattle.m2v_decode.specs.declared.course.Course.{Course}
use Rattle.m2v_decode.specs.Course.{Ended}
use Rattle.m2v_decode.proofs.TookLaws.{took_in}
use Rattle.m2v_decode.proofs.course.Course.take_in.Goals as goal

pub returns : goal.returns
returns g c =
    let old = c.args.self.now in
    let q = c.open_queue.new.self in
    let m : Course = record q { gallery = c.set_rows.new.gallery; state = record c.args.after.now { headers_only = false } } in
    let d = c.finish.new.self in
    let same = c.open_queue.ensures.same in
    let is = c.open_of-picture.ensures in
    let begun = c.in_ok-begin.ensures in
    let store = begun.value ∙ (λ i. picture_begun (Some c.in-Some-Some.sequence) (is i) (store_of (same i).gallery)) in
    on_ok_weaker c.finish.result
    (λ e. took_in old m d c.args.opened.now c.args.after.now c.in-Some-Some.first c.in-Some-Some.sequence (g.R.PictureRows.samples c.args.rows.now) c.begin.new.self
    c.requires.can c.in-Some-Some.is-0 c.in-Some-Some.is-1 c.open_queue.ensures.low (ap (λ (x : Course). x.queue) same) refl (ap (λ (x : Course). x.ready) same) (ap (λ (x : Course). x.pictures) same)
    (ap (λ (x : Course). x.dropped) same) (ap (λ (x : Course). x.shown) same) store begun.frames c.set_rows.ensures (subst (λ (p : Open). Ended m p d) is e)) c.finish.ensures
