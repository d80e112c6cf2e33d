use Rattle.m2v_tool.proofs.stops.not_cuttable.Goals as goal

pub returns : goal.returns
returns c = rw (c.from.ensures) at c.new.ensures
