use Rattle.std.proofs.Common.{List, [], ap, sym, subst, ◌∙◌}
use Rattle.m2v_head.specs.declared.sequence.SequenceInfo.{SequenceInfo}
use Rattle.m2v_head.specs.declared.sequence.SequenceExtension.{SequenceExtension}
use Rattle.m2v_model.specs.Streams.{sequence, after}
use Rattle.m2v_model.specs.PieceNotes.{noted}
use Rattle.m2v_dec_rows.specs.m2v_dec_unit.Among.{AreMatrices}
use Rattle.m2v_decode.specs.declared.course.Course.{Course}
use Rattle.m2v_decode.proofs.NoteLaws.{sequence_noted}
use Rattle.m2v_decode.proofs.StepLaws.{steps_sequence}
use Rattle.m2v_decode.proofs.course.Course.enter_sequence.Goals as goal

pub returns : goal.returns
returns c =
    let closed = c.in_ok-close.ensures in
    let mid = c.close.new.self in
    let s = c.args.s.now in
    let same = c.open_queue.ensures.same in
    steps_sequence c.args.self.now mid _ s closed
    (record {
      anchor = ap (λ (x : Course). x.queue.anchor) same;
      ready = ap (λ (x : Course). x.ready.items) same;
      pictures = ap (λ (x : Course). x.pictures) same;
      dropped = ap (λ (x : Course). x.dropped) same;
      code_end = ap (λ (x : Course). x.code_end) same;
      shown = ap (λ (x : Course). x.shown) same;
    })
    (ap (λ (x : Course). noted x.notes) same ∙ ap (λ (l : List (SequenceInfo × SequenceExtension)). record (noted mid.notes) { sequences = l }) c.in_ok-push.ensures.items ∙ sequence_noted mid.code_end (noted mid.notes) s)
    (ap (λ (x : Course). x.gallery) same)
    (c.enter.ensures.state [] ∙ ap (λ (x : Course). after x.state (sequence s)) same)
    (c.enter.ensures.matrices c.requires.fits (subst (λ (x : Course). AreMatrices x.state) (sym same) closed.sound.frames.matrices))
    c.open_queue.ensures.low c.requires.fits.1.size c.requires.follows
