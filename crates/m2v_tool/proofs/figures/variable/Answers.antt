use Rattle.m2v_tool.specs.Checking.{variable_ending}
use Rattle.m2v_tool.proofs.figures.variable.Goals as goal

pub returns : goal.returns
unfolding variable_ending
returns c = rw (c.from.ensures, c.from-2.ensures, c.from-3.ensures) at c.new.ensures
