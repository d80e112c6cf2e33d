use Rattle.std.proofs.Common.{length}
use Rattle.m2v_decode.specs.Course.{IsSoundCourse}
use Rattle.m2v_decode.proofs.ReadLaws.{SoFar}
use Rattle.m2v_decode.proofs.course.Course.units.Given as goal

abbrev pub invariant-loop : goal.invariant-loop
invariant-loop l = record {
  sound : IsSoundCourse l.self;
  so_far : SoFar l.fn.self l.fn.units l.self l.units;
}

abbrev pub decreases-loop : goal.decreases-loop
decreases-loop l = length l.units
