use Rattle.std.proofs.Common.{◌≡◌}
use Rattle.m2v_encode.proofs.Pieces.{work_so_far}
use Rattle.m2v_encode.proofs.done.DoneGroup.work.Given as goal

abbrev pub invariant-loop-r : goal.invariant-loop-r
invariant-loop-r l = l.work ≡ work_so_far l.self l.p l.r
