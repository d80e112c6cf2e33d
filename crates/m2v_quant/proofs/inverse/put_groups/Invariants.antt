use Rattle.std.proofs.Common.{◌*◌}
use Rattle.m2v_quant.specs.Prefix.{IsUpTo}
use Rattle.m2v_quant.proofs.inverse.put_groups.Given as goal

abbrev pub invariant-loop-group : goal.invariant-loop-group
invariant-loop-group l = IsUpTo l.levels.at l.kind (8 * l.group) l.out l.told
