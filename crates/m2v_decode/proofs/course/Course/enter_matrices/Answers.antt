use Rattle.std.proofs.Common.{[], refl}
use Rattle.m2v_decode.proofs.StepLaws.{steps_matrices}
use Rattle.m2v_decode.proofs.course.Course.enter_matrices.Goals as goal

pub returns : goal.returns
returns c =
    steps_matrices c.args.self.now _ c.args.m.now c.requires.sound (record { anchor = refl; ready = refl; pictures = refl; dropped = refl; code_end = refl; shown = refl }) refl refl refl
    (c.enter.ensures.state []) (c.enter.ensures.matrices c.requires.fits c.requires.sound.frames.matrices)
