use Rattle.std.proofs.Common.{◌≡◌, length}
use Rattle.m2v_mend.specs.Feeding.{from_end}
use Rattle.m2v_mend.specs.Telling.{SlicesFrom}
use Rattle.m2v_mend.proofs.InfoLaws.{CountedTo}
use Rattle.m2v_mend.proofs.info.count.Given as goal

abbrev pub invariant-loop-counted : goal.invariant-loop-counted
invariant-loop-counted l = record {
  counted : CountedTo l.fn.units l.units l.counted;
  behind : from_end l.fn.units ≡ from_end l.units;
  slices : SlicesFrom l.fn.slices l.units;
}

abbrev pub decreases-loop-counted : goal.decreases-loop-counted
decreases-loop-counted l = length l.units
