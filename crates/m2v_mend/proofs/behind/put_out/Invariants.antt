use Rattle.std.proofs.Common.{◌≡◌, ◌++◌}
use Rattle.m2v_mend.specs.Kept.{pieces_of}
use Rattle.m2v_mend.proofs.behind.put_out.Given as goal

abbrev pub invariant-loop-member : goal.invariant-loop-member
invariant-loop-member l = l.out.items ≡ l.fn.out.items ++ pieces_of l.yielded
