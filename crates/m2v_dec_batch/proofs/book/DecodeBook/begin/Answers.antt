use Rattle.std.proofs.Common.{◌∙◌, sym, ap, Some}
use Rattle.std.specs.Option.{option_map}
use Rattle.m2v_plane.specs.Samples.{Samples}
use Rattle.m2v_dec_batch.specs.declared.cache.HeldFrame.{HeldFrame}
use Rattle.m2v_dec_batch.specs.Learned.{begun_over}
use Rattle.m2v_dec_batch.proofs.Learning.{begun_by}
use Rattle.m2v_dec_batch.proofs.book.DecodeBook.begin.Goals as goal
use Rattle.m2v_dec_batch.proofs.book.DecodeBook.begin.Goals.{in-Some, in_default}

pub returns : goal.returns
returns c =
    let over = begun_over c.args.self.now c.args.q in
    let filled = ap (λ (h : HeldFrame). option_map over h.frame) c.fill_room.ensures.value in
    let room = ap (λ (h : HeldFrame). h.room) c.fill_room.ensures.value in
    elim c.match-held.branch [
      | in-Some w ↦ record {
        value = begun_by c.args.self.now c.args.q c.args.held.now c.match-held.held (ap (λ (h : HeldFrame). h.room) w.held-is ∙ room)
            (ap (λ (h : HeldFrame). h.frame) w.held-is
            ∙ ap (λ (f : Samples). Some f) w.begin_frame.ensures.value
            ∙ ap (option_map over) (sym w.in-Some.is)
            ∙ filled);
      }
      | in_default w ↦ record {
        value = begun_by c.args.self.now c.args.q c.args.held.now c.match-held.held (ap (λ (h : HeldFrame). h.room) w.held-is ∙ room)
            (ap (λ (h : HeldFrame). h.frame) w.held-is ∙ w.in_default.is ∙ ap (option_map over) (sym w.in_default.is) ∙ filled);
      }
    ]
