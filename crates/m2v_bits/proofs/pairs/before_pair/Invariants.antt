use Rattle.m2v_bits.specs.Bits.{HasNoPair}
use Rattle.m2v_bits.proofs.pairs.before_pair.Given as goal

abbrev pub invariant-loop-n : goal.invariant-loop-n
invariant-loop-n l = HasNoPair l.n l.bytes
