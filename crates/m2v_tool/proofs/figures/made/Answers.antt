use Rattle.m2v_tool.specs.Making.{made_ending}
use Rattle.m2v_tool.proofs.figures.made.Goals as goal

pub returns : goal.returns
unfolding made_ending
returns c = rw (c.from.ensures, c.from-2.ensures, c.from-3.ensures, c.from-4.ensures) at c.new.ensures
