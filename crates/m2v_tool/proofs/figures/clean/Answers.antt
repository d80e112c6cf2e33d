use Rattle.m2v_tool.specs.Auditing.{clean_ending}
use Rattle.m2v_tool.proofs.figures.clean.Goals as goal

pub returns : goal.returns
unfolding clean_ending
returns c = rw (c.from.ensures, c.from-2.ensures, c.from-3.ensures, c.from-4.ensures) at c.new.ensures
