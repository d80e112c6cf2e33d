use Rattle.m2v_decode.proofs.StepLaws.{steps_skipped}
use Rattle.m2v_decode.proofs.course.Course.enter.Goals as goal

pub returns-in-Skipped : goal.returns-in-Skipped
returns-in-Skipped c = λ u. rw c.in-Skipped.is (steps_skipped _ u c.requires.sound)
