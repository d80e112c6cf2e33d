use Rattle.std.proofs.Common.{arith, pos, ◌<ℤ◌, ◌≤ℤ◌}
use Rattle.std.proofs.lemmas.Int.{ints, to_z-of_z}
use Rattle.std.proofs.lemmas.Nat.{one_shl}
use Rattle.m2v_block.proofs.Numbers.{negative_number, positive_number}
use Rattle.m2v_block.proofs.dc.number_of.Goals as goal

pub returns-then-difference-lt0-clause-value : goal.returns-then-difference-lt0-clause-value
returns-then-difference-lt0-clause-value c =
    let lt : c.args.difference <ℤ pos 0 = omega (arith, ints) in
    let fits = c.ranges.difference in
    let value = simp to_z-of_z at c.unsigned_abs-magnitude.ensures.value in
    negative_number c.args.size _ c.unsigned_abs-magnitude.result c.args.difference lt (one_shl c.args.size 32 (omega arith)) value

pub returns-else-difference-lt0-clause-value : goal.returns-else-difference-lt0-clause-value
returns-else-difference-lt0-clause-value c =
    let le : pos 0 ≤ℤ c.args.difference = omega (arith, ints) in
    let fits = c.ranges.difference in
    let value = simp to_z-of_z at c.unsigned_abs-magnitude.ensures.value in
    positive_number c.args.size c.unsigned_abs-magnitude.result c.args.difference le value
