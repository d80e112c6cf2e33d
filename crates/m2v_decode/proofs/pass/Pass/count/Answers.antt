use Rattle.std.proofs.Common.{◌+◌, ℕ, refl, ap, sym, ◌∙◌}
use Rattle.std.specs.Prelude.{if◌then◌else◌}
use Rattle.m2v_model.specs.Pictures.{Store, picture_of}
use Rattle.m2v_model.specs.PieceNotes.{noted}
use Rattle.m2v_decode.proofs.CourseLaws.{open_dropped}
use Rattle.m2v_decode.proofs.NoteLaws.{picture_noted}
use Rattle.m2v_decode.proofs.PassLaws.{frame_counted}
use Rattle.m2v_decode.proofs.pass.Pass.count.Goals as goal

pub returns-clause-tells : goal.returns-clause-tells
returns-clause-tells c = λ (store : Store).
    let old = c.args.self.now in
    let p = c.args.p.now in
    record {
      pictures = refl;
      dropped = ap (λ (n : ℕ). old.dropped + n) (c.one_if.ensures ∙ sym (open_dropped p store));
      frames = ap (λ (n : ℕ). old.frames + n) (c.one_if-2.ensures ∙ ap (λ b. if b then 1 else 0) c.makes_frame.ensures ∙ sym (frame_counted p store c.requires.open));
      notes = picture_noted old.code_end (noted old.notes) (picture_of p store) _ (c.note_or-self.ensures store);
      code_end = refl;
    }
