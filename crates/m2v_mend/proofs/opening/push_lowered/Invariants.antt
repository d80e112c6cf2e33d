use Rattle.std.proofs.Common.{take}
use Rattle.m2v_mend.specs.Opening.{AreAdded}
use Rattle.m2v_mend.proofs.opening.push_lowered.Given as goal

abbrev pub invariant-loop-member : goal.invariant-loop-member
invariant-loop-member l = AreAdded l.low (take l.member-index l.members) l.fn.out.items l.out.items
