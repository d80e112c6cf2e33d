use Rattle.std.proofs.Common.{◌+◌, refl, ap}
use Rattle.m2v_model.specs.Pictures.{Store, picture_of}
use Rattle.m2v_model.specs.PieceNotes.{noted}
use Rattle.m2v_decode.proofs.NoteLaws.{picture_noted}
use Rattle.m2v_decode.proofs.course.Course.count.Goals as goal

pub returns : goal.returns
returns c = record {
  counts = record {
    stays = record { state = refl; shown = refl; code_end = refl };
    pictures = refl;
    dropped = ap (λ n. c.args.self.now.dropped + n) c.one_if.ensures;
    notes = λ (store : Store). picture_noted c.args.self.now.code_end (noted c.args.self.now.notes) (picture_of c.args.p.now store) _ (c.note_or-self.ensures store);
  };
  ready = refl;
  queue = refl;
  gallery = refl;
}
