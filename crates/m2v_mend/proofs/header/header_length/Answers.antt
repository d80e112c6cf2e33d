use Rattle.m2v_mend.proofs.Headed.{length_none, length_here, length_more}
use Rattle.m2v_mend.proofs.header.header_length.Goals as goal

pub returns-in-None : goal.returns-in-None
returns-in-None c = length_none c.args.units.now c.loop-unit.units c.left-total.result c.loop-unit.invariant.before c.in-None.ensures.next.0

pub returns-then-value : goal.returns-then-value
returns-then-value c =
    length_here c.args.units.now c.loop-unit.units c.next-in-loop-unit.new.self c.in-Some-next.unit c.left-total.result c.left-left.result c.value.result c.loop-unit.invariant.before c.in-Some-next.ensures.next c.value.ensures c.if-value.true c.left-left.ensures.value

pub loop-unit-preserved : goal.loop-unit-preserved
loop-unit-preserved c =
    let x = length_more c.args.units.now c.loop-unit.units c.next-in-loop-unit.new.self c.in-Some-next.unit c.left-total.result c.value.result c.loop-unit.invariant.before c.loop-unit.invariant.less c.in-Some-next.ensures.next c.value.ensures c.if-value.false in
    record { less = x.0; before = x.1 }
