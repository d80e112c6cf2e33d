use Rattle.std.proofs.Common.{arith}
use Rattle.std.proofs.lemmas.Int.{ints, to_z-of_z}
use Rattle.m2v_vector.proofs.Wrapping.{opposite_is}
use Rattle.m2v_vector.proofs.vectors.dual.Goals as goal

pub returns : goal.returns
returns c =
    let v = c.ranges.vector in
    let m = c.ranges.factor in
    let d = c.ranges.dm in
    let k = c.ranges.correction in
    let product = simp to_z-of_z at c.stretched.ensures.value in
    let above = simp to_z-of_z at c.is_above.ensures.value in
    let added = simp to_z-of_z at c.added.ensures.value in
    opposite_is c.args.vector c.args.dm c.args.factor c.args.correction _ c.half.result c.stretched.result c.is_above.result c.added.result _
    c.half.ensures.value (omega (arith, ints)) product above added (omega (arith, ints))

pub overflow_add-result : goal.overflow_add-result
overflow_add-result c = omega (arith, ints, c.half.ensures.low, c.half.ensures.high, c.added.ensures.low, c.added.ensures.high)
