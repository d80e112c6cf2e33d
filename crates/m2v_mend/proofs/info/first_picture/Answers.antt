use Rattle.std.proofs.Common.{sym}
use Rattle.m2v_mend.proofs.InfoLaws.{before_none, before_here}
use Rattle.m2v_mend.proofs.info.first_picture.Goals as goal

pub returns-in-None-clause-place : goal.returns-in-None-clause-place
returns-in-None-clause-place c = before_none _ _ c.left-total.result c.loop-unit.invariant.before c.in-None.ensures.next.0

pub returns-then-value-eq-PICTURE-clause-place : goal.returns-then-value-eq-PICTURE-clause-place
returns-then-value-eq-PICTURE-clause-place c =
    before_here _ _ _ c.in-Some.unit c.left-total.result c.left-left.result c.loop-unit.invariant.before c.in-Some.ensures.next (sym c.value.ensures) c.if-value-eq-PICTURE.true c.left-left.ensures.value
