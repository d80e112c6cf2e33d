use Rattle.std.proofs.Common.{arith, rules, ◌≡◌, true, length, get_or, pos, refl}
use Rattle.m2v_block.proofs.Ranges.{difference_passed, difference_is}
use Rattle.m2v_block.proofs.Written.{block_most}
use Rattle.m2v_block.proofs.Counted.{intra_length, kind_of}
use Rattle.m2v_block.proofs.count.intra_bits.Goals as goal

pub dc_bits-requires : goal.dc_bits-requires
dc_bits-requires c = difference_passed 3 (get_or c.args.levels.now.at 0 (pos 0)) c.args.dc_pred (omega arith) c.requires.dc c.requires.predictor

pub returns-clause-value : goal.returns-clause-value
returns-clause-value c = λ kind on is.
    let levels = c.args.levels.now.at in
    let same = difference_is 3 (get_or levels 0 (pos 0)) c.args.dc_pred (omega arith) c.requires.dc c.requires.predictor in
    intra_length kind c.args.table_one c.args.luma _ c.args.dc_pred levels _ _ on is same c.dc_bits.ensures.value c.pairs_bits.ensures.value

pub returns-clause-most : goal.returns-clause-most
returns-clause-most c =
    let levels = c.args.levels.now.at in
    let kind = kind_of true c.args.luma in
    let len : length levels ≡ 64 = search rules in
    let same = difference_is 3 (get_or levels 0 (pos 0)) c.args.dc_pred (omega arith) c.requires.dc c.requires.predictor in
    omega (arith, intra_length kind c.args.table_one c.args.luma _ c.args.dc_pred levels _ _ refl refl same c.dc_bits.ensures.value c.pairs_bits.ensures.value, block_most kind c.args.table_one c.args.dc_pred levels (omega (arith, len)))
