use Rattle.m2v_tool.specs.Auditing.{found_ending}
use Rattle.m2v_tool.proofs.figures.found.Goals as goal

pub returns : goal.returns
unfolding found_ending
returns c = rw (c.from.ensures, c.from-2.ensures, c.from-3.ensures, c.from-4.ensures, c.from-5.ensures, c.from-6.ensures) at c.new.ensures
