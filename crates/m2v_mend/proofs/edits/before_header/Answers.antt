use Rattle.std.proofs.Common.{sym}
use Rattle.m2v_mend.proofs.FrontLaws.{header_none, header_here}
use Rattle.m2v_mend.proofs.edits.before_header.Goals as goal

pub returns-in-None : goal.returns-in-None
returns-in-None c = header_none _ _ c.left-total.result c.loop-unit.invariant.before c.in-None.ensures.next.0

pub returns-then-value : goal.returns-then-value
returns-then-value c =
    header_here _ _ _ c.in-Some.unit c.left-total.result c.left-left.result c.loop-unit.invariant.before c.in-Some.ensures.next (sym c.value.ensures) c.if-value.true c.left-left.ensures.value
