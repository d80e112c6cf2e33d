use Rattle.std.proofs.Common.{length}
use Rattle.m2v_cut.proofs.Scans.{Passed}
use Rattle.m2v_cut.proofs.look.last_sequence.Given as goal

abbrev pub invariant-loop-found : goal.invariant-loop-found
invariant-loop-found l = Passed l.fn.number l.fn.units l.number l.units l.found

abbrev pub decreases-loop-found : goal.decreases-loop-found
decreases-loop-found l = length l.units
