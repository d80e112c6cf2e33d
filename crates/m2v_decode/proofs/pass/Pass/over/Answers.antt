use Rattle.std.proofs.Common.{ap}
use Rattle.m2v_model.specs.Streams.{over}
use Rattle.m2v_decode.proofs.PassLaws.{passes_over}
use Rattle.m2v_decode.proofs.pass.Pass.over.Goals as goal

pub returns : goal.returns
returns c = let ends = c.close.ensures in (over, c.in_ok-read_end.ensures.exact, passes_over _ _ ends, λ e. ap (λ z. z.picture) ends.state)
