use Rattle.std.proofs.Common.{◌≡◌}
use Rattle.m2v_dec_batch.specs.Filled.{at_hand}
use Rattle.m2v_dec_batch.proofs.filling.Filling.at_hand.Given as goal

abbrev pub invariant-loop-p : goal.invariant-loop-p
invariant-loop-p l = l.at ≡ at_hand l.self l.p
