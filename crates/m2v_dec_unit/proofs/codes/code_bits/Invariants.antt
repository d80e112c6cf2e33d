use Rattle.std.proofs.Common.{length}
use Rattle.m2v_dec_unit.proofs.Passed.{Passed}
use Rattle.m2v_dec_unit.proofs.codes.code_bits.Given as goal

abbrev pub invariant-loop-u : goal.invariant-loop-u
invariant-loop-u l = Passed l.fn.units l.units l.bits

abbrev pub decreases-loop-u : goal.decreases-loop-u
decreases-loop-u l = length l.units
