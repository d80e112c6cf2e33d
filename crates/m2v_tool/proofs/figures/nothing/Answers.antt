use Rattle.m2v_tool.specs.Mending.{told_ending}
use Rattle.m2v_tool.proofs.figures.nothing.Goals as goal

pub returns : goal.returns
unfolding told_ending
returns c = rw (c.fault_word-word.ensures) at c.placed.ensures
