use Rattle.std.proofs.Common.{◌≡◌, take}
use Rattle.m2v_encode.proofs.group.copy_of.Given as goal

abbrev pub invariant-loop-i : goal.invariant-loop-i
invariant-loop-i l = l.copied.items ≡ take l.i l.fn.pictures
