use Rattle.std.proofs.Common.{◌≡◌}
use Rattle.m2v_encode.specs.Rebuilt.{rebuilt_by}
use Rattle.m2v_encode.proofs.done.DoneGroup.rebuilt.Given as goal

abbrev pub invariant-loop-p : goal.invariant-loop-p
invariant-loop-p l = l.frame ≡ rebuilt_by l.self l.k l.p
