use Rattle.std.proofs.Common.{length}
use Rattle.m2v_audit.specs.Others.{others_from}
use Rattle.m2v_audit.proofs.Walks.{Walked}
use Rattle.m2v_audit.proofs.others.read_others.Given as goal

abbrev pub invariant-loop-u : goal.invariant-loop-u
invariant-loop-u l = Walked others_from l.bit l.fn.units l.others.items l.at l.units

abbrev pub decreases-loop-u : goal.decreases-loop-u
decreases-loop-u l = length l.units
