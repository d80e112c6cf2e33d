use Rattle.std.proofs.Common.{◌≡◌, take, length}
use Rattle.m2v_model.specs.Units.{joined}
use Rattle.m2v_mend.specs.Kept.{bodies}
use Rattle.m2v_mend.proofs.alone.bytes_of.Given as goal

abbrev pub invariant-loop-member : goal.invariant-loop-member
invariant-loop-member l = l.bytes ≡ length (joined (bodies (take l.member-index l.members)))
