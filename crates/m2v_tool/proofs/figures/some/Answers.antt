use Rattle.m2v_tool.specs.Mending.{told_ending}
use Rattle.m2v_tool.proofs.figures.some.Goals as goal

pub returns : goal.returns
unfolding told_ending
returns c = rw (c.from.ensures, c.from-2.ensures, c.from-3.ensures, c.from-4.ensures, c.from-5.ensures) at c.new.ensures
