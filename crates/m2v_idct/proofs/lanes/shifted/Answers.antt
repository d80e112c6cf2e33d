use Rattle.std.proofs.Common.{refl}
use Rattle.m2v_idct.proofs.FourLanes.{shifts, shifts_within}
use Rattle.m2v_idct.proofs.lanes.shifted.Goals as goal

pub returns : goal.returns
returns c =
    rw (shifts 4 c.args.x c.requires.len c.requires.within) (record { value = refl; within = shifts_within c.args.x c.requires.within })
