use Rattle.std.proofs.Common.{◌≡◌, length}
use Rattle.m2v_law_group.specs.Groups.{from_group}
use Rattle.m2v_cut.proofs.look.to_header.Given as goal

abbrev pub invariant-loop-unit : goal.invariant-loop-unit
invariant-loop-unit l = from_group l.fn.number l.fn.units ≡ from_group l.number l.units

abbrev pub decreases-loop-unit : goal.decreases-loop-unit
decreases-loop-unit l = length l.units
