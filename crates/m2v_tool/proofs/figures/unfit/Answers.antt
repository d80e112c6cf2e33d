use Rattle.m2v_tool.specs.Endings.{unfit_ending}
use Rattle.m2v_tool.proofs.figures.unfit.Goals as goal

pub returns : goal.returns
unfolding unfit_ending
returns c = rw (c.from.ensures) at c.new.ensures
