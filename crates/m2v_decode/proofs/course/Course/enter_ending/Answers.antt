use Rattle.std.proofs.lemmas.Result.{on_ok_weaker}
use Rattle.m2v_decode.proofs.StepLaws.{steps_ending}
use Rattle.m2v_decode.proofs.course.Course.enter_ending.Goals as goal

pub returns : goal.returns
returns c = on_ok_weaker c.close.result (λ h. steps_ending c.args.self.now c.close.new.self h) c.close.ensures
