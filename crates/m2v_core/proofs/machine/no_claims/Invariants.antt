use Rattle.std.proofs.Common.{◌≡◌, [], replicate}
use Rattle.m2v_core.specs.Lists.{lists}
use Rattle.m2v_core.proofs.machine.no_claims.Given as goal

abbrev pub invariant-loop-i : goal.invariant-loop-i
invariant-loop-i l = lists l.claimed.items ≡ replicate l._i []
