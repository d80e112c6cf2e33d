use Rattle.m2v_idct.proofs.FourLanes.{joined_is}
use Rattle.m2v_idct.proofs.lanes.joined.Goals as goal

pub returns : goal.returns
returns c = joined_is c.args.left c.args.right c.requires.left c.requires.right c.requires.left_within c.requires.right_within
