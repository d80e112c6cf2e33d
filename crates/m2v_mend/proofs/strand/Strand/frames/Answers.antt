use Rattle.std.proofs.Common.{◌∙◌}
use Rattle.m2v_mend.proofs.Showing.{frames_are}
use Rattle.m2v_mend.proofs.strand.Strand.frames.Goals as goal

pub returns : goal.returns
returns c = rw (← c.self.view_is) (λ bytes at some. c.frames.ensures ∙ frames_are _ bytes at some)
