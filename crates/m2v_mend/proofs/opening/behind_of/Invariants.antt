use Rattle.std.proofs.Common.{◌-◌, length}
use Rattle.m2v_mend.proofs.Parting.{BehindTo}
use Rattle.m2v_mend.proofs.opening.behind_of.Given as goal

abbrev pub invariant-loop-at : goal.invariant-loop-at
invariant-loop-at l = BehindTo l.members l.frame l.at

abbrev pub decreases-loop-at : goal.decreases-loop-at
decreases-loop-at l = length l.members - l.at
