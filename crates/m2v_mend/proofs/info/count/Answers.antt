use Rattle.std.proofs.Common.{refl, sym, arith}
use Rattle.m2v_mend.proofs.InfoLaws.{counted_start, counted_more, counted_all, counted_here, from_on}
use Rattle.m2v_mend.proofs.SliceUnits.{counted_slices, behind_slices, slices_room, slices_on}
use Rattle.m2v_mend.proofs.info.count.Goals as goal

pub loop-counted-init : goal.loop-counted-init
loop-counted-init c = record {
  counted = counted_start c.args.units.now _ refl (omega (arith, c.left-total.ensures.value, c.left-total.ensures.most));
  behind = refl;
  slices = c.requires;
}

pub returns-in-None-clause-counted : goal.returns-in-None-clause-counted
returns-in-None-clause-counted c = counted_all c.args.units.now c.loop-counted.units c.loop-counted.counted c.loop-counted.invariant.counted c.in-None.ensures.next.0

pub returns-then-value-clause-counted : goal.returns-then-value-clause-counted
returns-then-value-clause-counted c =
    counted_here c.args.units.now c.loop-counted.units c.next.new.self c.in-Some.unit c.loop-counted.counted c.loop-counted.invariant.counted c.in-Some.ensures.next (sym c.value.ensures) c.if-value.true

pub with_slices-requires : goal.with_slices-requires
with_slices-requires c = slices_room c.args.units.now c.loop-counted.units c.loop-counted.counted c.left-left.result c.loop-counted.invariant.counted c.left-left.ensures.value

pub returns-then-left-slices-clause-counted : goal.returns-then-left-slices-clause-counted
returns-then-left-slices-clause-counted c =
    counted_slices c.args.units.now c.loop-counted.units c.loop-counted.counted c.with_slices.result c.args.slices c.left-left.result c.loop-counted.invariant.counted c.loop-counted.invariant.slices c.left-left.ensures.value c.if-left-slices.true c.with_slices.ensures

pub returns-then-left-slices-clause-behind : goal.returns-then-left-slices-clause-behind
returns-then-left-slices-clause-behind c =
    behind_slices c.args.units.now c.loop-counted.units c.args.slices c.left-left.result c.loop-counted.invariant.behind c.loop-counted.invariant.slices c.left-left.ensures.value c.if-left-slices.true

pub loop-counted-preserved : goal.loop-counted-preserved
loop-counted-preserved c = record {
  counted = counted_more c.args.units.now c.loop-counted.units c.next.new.self c.in-Some.unit c.loop-counted.counted c.counted_with-counted.result c.loop-counted.invariant.counted c.in-Some.ensures.next c.in-Some.ensures.long (sym c.value.ensures) c.if-value.false c.counted_with-counted.ensures;
  behind = from_on c.args.units.now c.loop-counted.units c.next.new.self c.in-Some.unit c.loop-counted.invariant.behind c.in-Some.ensures.next (sym c.value.ensures) c.if-value.false;
  slices = slices_on c.args.slices c.loop-counted.units c.next.new.self c.in-Some.unit c.loop-counted.invariant.slices c.in-Some.ensures.next;
}
