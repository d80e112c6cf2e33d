use Rattle.std.proofs.Common.{arith, get_or, ◌∷◌, [], neg_ℤ, pos}
use Rattle.m2v_idct.specs.RowSums.{odd_sums}
use Rattle.m2v_idct.proofs.RowSteps.{added, again_within, four_told_within, product}
use Rattle.m2v_idct.proofs.row_lanes.odd.Goals as goal

pub times-requires-3-clause-x : goal.times-requires-3-clause-x
times-requires-3-clause-x c = four_told_within _ (get_or c.args.b.now 5 (pos 0)) (c.requires 5 (pos 0) (omega arith)) c.in_fours-f.ensures.c5

pub times-requires-4-clause-x : goal.times-requires-4-clause-x
times-requires-4-clause-x c = four_told_within _ (get_or c.args.b.now 7 (pos 0)) (c.requires 7 (pos 0) (omega arith)) c.in_fours-f.ensures.c7

pub pair-requires-clause-x : goal.pair-requires-clause-x
pair-requires-clause-x c = again_within 8388608 8388608 _ (omega arith) (omega arith) c.times-3.ensures.within

pub pair-requires-clause-y : goal.pair-requires-clause-y
pair-requires-clause-y c = again_within 8388608 8388608 _ (omega arith) (omega arith) c.times-4.ensures.within

pub two_pairs-requires-clause-x : goal.two_pairs-requires-clause-x
two_pairs-requires-clause-x c = again_within 16777216 17000000 _ (omega arith) (omega arith) c.pair-first.ensures.within

pub two_pairs-requires-clause-y : goal.two_pairs-requires-clause-y
two_pairs-requires-clause-y c = again_within 16777216 16777216 _ (omega arith) (omega arith) c.pair.ensures.within

pub returns : goal.returns
unfolding odd_sums
returns c =
    let b = c.args.b.now in let f = c.in_fours-f in
    let z1 = get_or b 1 (pos 0) in let z3 = get_or b 3 (pos 0) in let z5 = get_or b 5 (pos 0) in let z7 = get_or b 7 (pos 0) in
    let p1 = product (pos 2841 ∷ pos 3406 ∷ pos 2276 ∷ pos 565 ∷ []) f.result.c1 c.times.result z1 (c.requires 1 (pos 0) (omega arith)) f.ensures.c1 c.times.ensures.value c.times.ensures.within in
    let p3 = product (pos 2408 ∷ neg_ℤ (pos 799) ∷ neg_ℤ (pos 4017) ∷ neg_ℤ (pos 1609) ∷ []) f.result.c3 c.times-2.result z3 (c.requires 3 (pos 0) (omega arith)) f.ensures.c3 c.times-2.ensures.value c.times-2.ensures.within in
    let p5 = product (pos 1609 ∷ neg_ℤ (pos 4017) ∷ pos 799 ∷ pos 2408 ∷ []) f.result.c5 c.times-3.result z5 (c.requires 5 (pos 0) (omega arith)) f.ensures.c5 c.times-3.ensures.value c.times-3.ensures.within in
    let p7 = product (pos 565 ∷ neg_ℤ (pos 2276) ∷ pos 3406 ∷ neg_ℤ (pos 2841) ∷ []) f.result.c7 c.times-4.result z7 (c.requires 7 (pos 0) (omega arith)) f.ensures.c7 c.times-4.ensures.value c.times-4.ensures.within in
    let one = added 16777216 c.times.result c.times-2.result c.pair-first.result _ _ (omega arith) p1 p3 c.pair-first.ensures.value c.pair-first.ensures.within in
    let two = added 16777216 c.times-3.result c.times-4.result c.pair.result _ _ (omega arith) p5 p7 c.pair.ensures.value c.pair.ensures.within in
    record {
      value = added 1000000000 c.pair-first.result c.pair.result c.two_pairs.result _ _ (omega arith) one two c.two_pairs.ensures.value c.two_pairs.ensures.within;
    }
