use Rattle.std.proofs.Common.{ap}
use Rattle.m2v_model.specs.Streams.{over}
use Rattle.m2v_decode.proofs.StepLaws.{steps_over}
use Rattle.m2v_decode.proofs.course.Course.over.Goals as goal

pub returns : goal.returns
returns c = let closed = c.in_ok-close.ensures in (over, c.in_ok-read_end.ensures.exact, steps_over _ _ closed, λ e. ap (λ z. z.picture) closed.state)
