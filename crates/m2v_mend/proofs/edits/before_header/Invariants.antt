use Rattle.std.proofs.Common.{◌≡◌, ◌+◌, ◌*◌, ◌≤◌, length}
use Rattle.m2v_model.specs.Units.{unit_bits}
use Rattle.m2v_model.specs.Pieces.{before_sequence}
use Rattle.m2v_mend.proofs.edits.before_header.Given as goal

abbrev pub invariant-loop-unit : goal.invariant-loop-unit
invariant-loop-unit l = record {
  less : unit_bits l.units ≤ l.total;
  before : l.total + 8 * length (before_sequence l.units) ≡ 8 * length (before_sequence l.fn.units) + unit_bits l.units;
}

abbrev pub decreases-loop-unit : goal.decreases-loop-unit
decreases-loop-unit l = length l.units
