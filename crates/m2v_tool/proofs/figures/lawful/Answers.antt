use Rattle.m2v_tool.specs.Checking.{lawful_ending}
use Rattle.m2v_tool.proofs.figures.lawful.Goals as goal

pub returns : goal.returns
unfolding lawful_ending
returns c = rw (c.from.ensures, c.from-2.ensures, c.from-3.ensures, c.from-4.ensures) at c.new.ensures
