use Rattle.m2v_tool.specs.Mending.{told_ending}
use Rattle.m2v_tool.proofs.figures.all.Goals as goal

pub returns : goal.returns
unfolding told_ending
returns c = rw (c.from.ensures, c.from-2.ensures, c.from-3.ensures) at c.new.ensures
