use Rattle.m2v_tool.proofs.figures.coded.Goals as goal

pub returns : goal.returns
returns c = rw (c.from.ensures, c.from-2.ensures, c.from-3.ensures, c.from-4.ensures) at c.new.ensures
