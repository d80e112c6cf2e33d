use Rattle.std.proofs.Common.{◌≡◌, length}
use Rattle.m2v_mend.specs.Tail.{last_bits}
use Rattle.m2v_mend.proofs.tail.last_bits.Given as goal

abbrev pub invariant-loop-u : goal.invariant-loop-u
invariant-loop-u l = last_bits l.bits l.units ≡ last_bits 0 l.fn.units

abbrev pub decreases-loop-u : goal.decreases-loop-u
decreases-loop-u l = length l.units
