use Rattle.std.proofs.Common.{◌≡◌, ◌+◌, ◌≤◌, length}
use Rattle.m2v_model.specs.Units.{unit_bits}
use Rattle.m2v_law_seam.specs.Spans.{extensions_first}
use Rattle.m2v_law_seam.specs.Faults.{only_header}
use Rattle.m2v_mend.proofs.header.header_length.Given as goal

abbrev pub invariant-loop-unit : goal.invariant-loop-unit
invariant-loop-unit l = record {
  less : unit_bits l.units ≤ l.total;
  before : l.total + unit_bits (extensions_first l.units) ≡ unit_bits (only_header l.fn.units) + unit_bits l.units;
}

abbrev pub decreases-loop-unit : goal.decreases-loop-unit
decreases-loop-unit l = length l.units
