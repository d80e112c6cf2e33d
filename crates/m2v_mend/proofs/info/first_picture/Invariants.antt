use Rattle.std.proofs.Common.{◌≡◌, ◌+◌, ◌≤◌, length}
use Rattle.m2v_model.specs.Units.{unit_bits}
use Rattle.m2v_law_group.specs.Groups.{coded_pictures}
use Rattle.m2v_law_seam.specs.Faults.{before_picture}
use Rattle.m2v_mend.proofs.info.first_picture.Given as goal

abbrev pub invariant-loop-unit : goal.invariant-loop-unit
invariant-loop-unit l = record {
  pictures : coded_pictures l.fn.units ≡ coded_pictures l.units;
  less : unit_bits l.units ≤ l.total;
  before : l.total + unit_bits (before_picture 0 l.units) ≡ unit_bits (before_picture 0 l.fn.units) + unit_bits l.units;
}

abbrev pub decreases-loop-unit : goal.decreases-loop-unit
decreases-loop-unit l = length l.units
