use Rattle.std.proofs.Common.{arith, refl, List, [], ◌∷◌, All, ℤ, pos, neg_ℤ, ◌*ℤ◌}
use Rattle.std.proofs.lemmas.Int.{ints}
use Rattle.m2v_idct.specs.Ranges.{Within}
use Rattle.m2v_idct.proofs.FourLanes.{asked, four_within, zipped, zipped_within, product_bound}
use Rattle.m2v_idct.proofs.lanes.less_of.Goals as goal

abbrev constants : List ℤ
constants = pos 0 ∷ neg_ℤ (pos 75) ∷ neg_ℤ (pos 75) ∷ pos 0 ∷ []

small : All (Within 75) constants
small = four_within 75 _ _ _ _ (omega (arith, ints), omega (arith, ints)) (omega (arith, ints), omega (arith, ints)) (omega (arith, ints), omega (arith, ints)) (omega (arith, ints), omega (arith, ints))

pub overflow_mul-result : goal.overflow_mul-result
overflow_mul-result c = asked 75 22000000 1650000000 (λ (a b : ℤ). a *ℤ b) (product_bound 75 22000000 1650000000 (omega arith)) (omega arith) (omega arith) (omega arith) constants c.args.x small c.requires

pub returns : goal.returns
returns c =
    let e = zipped 75 22000000 1650000000 (λ (a b : ℤ). a *ℤ b) (product_bound 75 22000000 1650000000 (omega arith)) (omega arith) (omega arith) (omega arith) constants c.args.x small c.requires in
    rw e
    (record {
      value = refl;
      within = zipped_within 75 22000000 1650000000 (λ (a b : ℤ). a *ℤ b) (product_bound 75 22000000 1650000000 (omega arith)) (omega arith) (omega arith) (omega arith) constants c.args.x small c.requires;
    })
