use Rattle.std.proofs.Common.{length}
use Rattle.m2v_decode.specs.Passing.{IsSoundPass}
use Rattle.m2v_decode.proofs.Passed.{SoFar}
use Rattle.m2v_decode.proofs.pass.Pass.units.Given as goal

abbrev pub invariant-loop : goal.invariant-loop
invariant-loop l = record {
  sound : IsSoundPass l.self;
  so_far : SoFar l.fn.self l.fn.units l.self l.units;
}

abbrev pub decreases-loop : goal.decreases-loop
decreases-loop l = length l.units
