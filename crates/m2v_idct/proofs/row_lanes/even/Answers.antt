use Rattle.std.proofs.Common.{arith, get_or, ◌∷◌, [], neg_ℤ, pos}
use Rattle.m2v_idct.specs.RowSums.{even_sums, four}
use Rattle.m2v_idct.proofs.RowSteps.{added, added_told, again_within, four_told_within, product}
use Rattle.m2v_idct.proofs.row_lanes.even.Goals as goal

pub times-requires-3-clause-x : goal.times-requires-3-clause-x
times-requires-3-clause-x c = four_told_within _ (get_or c.args.b.now 2 (pos 0)) (c.requires 2 (pos 0) (omega arith)) c.in_fours-f.ensures.c2

pub times-requires-4-clause-x : goal.times-requires-4-clause-x
times-requires-4-clause-x c = four_told_within _ (get_or c.args.b.now 6 (pos 0)) (c.requires 6 (pos 0) (omega arith)) c.in_fours-f.ensures.c6

pub pair-requires-2-clause-x : goal.pair-requires-2-clause-x
pair-requires-2-clause-x c = again_within 8388608 8388608 _ (omega arith) (omega arith) c.times-3.ensures.within

pub pair-requires-2-clause-y : goal.pair-requires-2-clause-y
pair-requires-2-clause-y c = again_within 8388608 8388608 _ (omega arith) (omega arith) c.times-4.ensures.within

pub two_pairs-requires-clause-x : goal.two_pairs-requires-clause-x
two_pairs-requires-clause-x c = again_within 17000000 17000000 _ (omega arith) (omega arith) c.rounding-first.ensures.within

pub two_pairs-requires-clause-y : goal.two_pairs-requires-clause-y
two_pairs-requires-clause-y c = again_within 16777216 16777216 _ (omega arith) (omega arith) c.pair-2.ensures.within

pub returns : goal.returns
unfolding even_sums
returns c =
    let b = c.args.b.now in let f = c.in_fours-f in
    let z0 = get_or b 0 (pos 0) in let z4 = get_or b 4 (pos 0) in let z2 = get_or b 2 (pos 0) in let z6 = get_or b 6 (pos 0) in
    let p0 = product (pos 2048 ∷ pos 2048 ∷ pos 2048 ∷ pos 2048 ∷ []) f.result.c0 c.times.result z0 (c.requires 0 (pos 0) (omega arith)) f.ensures.c0 c.times.ensures.value c.times.ensures.within in
    let p4 = product (pos 2048 ∷ neg_ℤ (pos 2048) ∷ neg_ℤ (pos 2048) ∷ pos 2048 ∷ []) f.result.c4 c.times-2.result z4 (c.requires 4 (pos 0) (omega arith)) f.ensures.c4 c.times-2.ensures.value c.times-2.ensures.within in
    let p2 = product (pos 2676 ∷ pos 1108 ∷ neg_ℤ (pos 1108) ∷ neg_ℤ (pos 2676) ∷ []) f.result.c2 c.times-3.result z2 (c.requires 2 (pos 0) (omega arith)) f.ensures.c2 c.times-3.ensures.value c.times-3.ensures.within in
    let p6 = product (pos 1108 ∷ neg_ℤ (pos 2676) ∷ pos 2676 ∷ neg_ℤ (pos 1108) ∷ []) f.result.c6 c.times-4.result z6 (c.requires 6 (pos 0) (omega arith)) f.ensures.c6 c.times-4.ensures.value c.times-4.ensures.within in
    let one = added 16777216 c.times.result c.times-2.result c.pair.result _ _ (omega arith) p0 p4 c.pair.ensures.value c.pair.ensures.within in
    let half = added_told 17000000 c.pair.result c.rounding-first.result _ (four (pos 128)) (omega arith) one c.rounding-first.ensures.value c.rounding-first.ensures.within in
    let two = added 16777216 c.times-3.result c.times-4.result c.pair-2.result _ _ (omega arith) p2 p6 c.pair-2.ensures.value c.pair-2.ensures.within in
    record {
      value = added 1000000000 c.rounding-first.result c.pair-2.result c.two_pairs.result _ _ (omega arith) half two c.two_pairs.ensures.value c.two_pairs.ensures.within;
      within = again_within 1000000000 1000000000 c.two_pairs.result (omega arith) (omega arith) c.two_pairs.ensures.within;
    }
