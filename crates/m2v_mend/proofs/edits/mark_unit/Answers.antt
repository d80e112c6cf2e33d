use Rattle.std.proofs.Common.{arith}
use Rattle.m2v_mend.proofs.UnitLaws.{marked_on, marked_other, marked_short}
use Rattle.m2v_mend.proofs.edits.mark_unit.Goals as goal
use Rattle.m2v_mend.proofs.edits.mark_unit.Goals.{else-unit-via-then-unit+else-unit-ge8, else-unit-via-else-unit}

pub returns-then-unit-ge8-clause-value : goal.returns-then-unit-ge8-clause-value
returns-then-unit-ge8-clause-value c z h =
    marked_on c.args.unit.now z c.broken.result c.if-unit.true (omega (arith, c.if-unit-ge8.true)) c.broken.ensures

pub returns-else-unit-clause-value : goal.returns-else-unit-clause-value
returns-else-unit-clause-value c z h = elim c.else-unit.branch [
  | else-unit-via-then-unit+else-unit-ge8 w ↦ marked_short c.args.unit.now z c.requires h w.if-unit.true (omega (arith, w.if-unit-ge8.false))
  | else-unit-via-else-unit w ↦ marked_other c.args.unit.now z c.requires w.if-unit.false
]
