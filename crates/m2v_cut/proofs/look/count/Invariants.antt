use Rattle.std.proofs.Common.{◌≡◌, ◌+◌, ◌*◌, ◌≤◌, length}
use Rattle.m2v_model.specs.Units.{unit_bits}
use Rattle.m2v_law_group.specs.Groups.{group_headers, to_end}
use Rattle.m2v_cut.proofs.look.count.Given as goal

abbrev pub invariant-loop-unit : goal.invariant-loop-unit
invariant-loop-unit l = record {
  total : l.total ≡ unit_bits l.fn.units;
  groups : group_headers (to_end l.fn.units) ≡ l.groups + group_headers (to_end l.units);
  bits : unit_bits (to_end l.fn.units) + unit_bits l.units ≡ l.total + unit_bits (to_end l.units);
  fewer : 32 * l.groups + unit_bits l.units ≤ l.total;
}

abbrev pub decreases-loop-unit : goal.decreases-loop-unit
decreases-loop-unit l = length l.units
