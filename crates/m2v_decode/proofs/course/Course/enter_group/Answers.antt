use Rattle.std.proofs.Common.{[], refl}
use Rattle.m2v_model.specs.PieceNotes.{noted}
use Rattle.m2v_decode.proofs.NoteLaws.{group_noted}
use Rattle.m2v_decode.proofs.StepLaws.{steps_group}
use Rattle.m2v_decode.proofs.course.Course.enter_group.Goals as goal

pub returns : goal.returns
returns c =
    let mid = c.close.new.self in
    steps_group c.args.self.now mid _ c.args.g.now c.in_ok-close.ensures (record { anchor = refl; ready = refl; pictures = refl; dropped = refl; code_end = refl; shown = refl }) refl
    (group_noted mid.code_end (noted mid.notes) c.args.g.now) refl (c.enter.ensures.state []) c.requires.follows
