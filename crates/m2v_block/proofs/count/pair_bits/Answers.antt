use Rattle.std.proofs.Common.{arith, false, refl, sym}
use Rattle.std.proofs.lemmas.Int.{to_z-of_z}
use Rattle.m2v_block.proofs.Written.{pair_most}
use Rattle.m2v_block.proofs.PairLengths.{length_at}
use Rattle.m2v_block.proofs.count.pair_bits.Goals as goal

pub returns-then-is_near-clause-value : goal.returns-then-is_near-clause-value
returns-then-is_near-clause-value c =
    let fits = c.ranges.level in
    let near = simp to_z-of_z at c.if-is_near.ensures in
    let value = simp to_z-of_z at c.place.ensures.value in
    length_at c.args.one c.args.run c.place.result _ c.args.level c.args.lengths.now c.requires.lengths (sym near) value c.place.ensures.below refl

pub returns-then-is_near-clause-most : goal.returns-then-is_near-clause-most
returns-then-is_near-clause-most c =
    let fits = c.ranges.level in
    let near = simp to_z-of_z at c.if-is_near.ensures in
    let value = simp to_z-of_z at c.place.ensures.value in
    omega (arith, length_at c.args.one c.args.run c.place.result _ c.args.level c.args.lengths.now c.requires.lengths (sym near) value c.place.ensures.below refl, pair_most false c.args.one c.args.run c.args.level)
