use Rattle.std.proofs.Common.{◌≡◌}
use Rattle.m2v_encode.specs.Rebuilt.{rows_in}
use Rattle.m2v_encode.proofs.done.DoneGroup.take_rows.Given as goal

abbrev pub invariant-loop-r : goal.invariant-loop-r
invariant-loop-r l = l.frame ≡ rows_in l.self l.p l.r l.fn.frame
