use Rattle.std.proofs.Common.{arith, rules, ◌≡◌, false, length, pos, refl}
use Rattle.m2v_block.proofs.Written.{block_most}
use Rattle.m2v_block.proofs.Counted.{other_length, kind_of}
use Rattle.m2v_block.proofs.count.other_bits.Goals as goal

pub returns-clause-value : goal.returns-clause-value
returns-clause-value c = λ kind off table_one dc_pred. (other_length kind table_one dc_pred c.args.levels.now.at _ _ off c.pairs_bits.ensures.value c.first_less.ensures).1

pub returns-clause-most : goal.returns-clause-most
returns-clause-most c =
    let levels = c.args.levels.now.at in
    let kind = kind_of false false in
    let len : length levels ≡ 64 = search rules in
    omega (arith, (other_length kind false (pos 0) levels _ _ refl c.pairs_bits.ensures.value c.first_less.ensures).1, block_most kind false (pos 0) levels (omega (arith, len)))

pub overflow_sub-result : goal.overflow_sub-result
overflow_sub-result c = omega (arith, (other_length (kind_of false false) false (pos 0) c.args.levels.now.at _ _ refl c.pairs_bits.ensures.value c.first_less.ensures).0)
