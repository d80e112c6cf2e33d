use Rattle.m2v_recon.proofs.EightLanes.{nearest_are, nearest_fit}
use Rattle.m2v_recon.proofs.lanes.nearest.Goals as goal

pub overflow_cast-result : goal.overflow_cast-result
overflow_cast-result c = nearest_fit 8 c.args.x c.requires.len c.requires.within

pub returns : goal.returns
returns c = nearest_are 8 c.args.x c.requires.len c.requires.within
