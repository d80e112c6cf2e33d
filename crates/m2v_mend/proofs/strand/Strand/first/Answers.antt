use Rattle.std.proofs.Common.{◌∙◌}
use Rattle.m2v_mend.proofs.Showing.{first_is}
use Rattle.m2v_mend.proofs.strand.Strand.first.Goals as goal

pub returns : goal.returns
returns c = rw (← c.self.view_is) (λ bytes at some. c.first.ensures ∙ first_is _ bytes at some)
