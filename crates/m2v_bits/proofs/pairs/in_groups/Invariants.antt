use Rattle.std.proofs.Common.{◌*◌}
use Rattle.m2v_bits.specs.Bits.{HasNoPair}
use Rattle.m2v_bits.proofs.pairs.in_groups.Given as goal

abbrev pub invariant-loop-group : goal.invariant-loop-group
invariant-loop-group l = HasNoPair (16 * l.group) l.bytes
