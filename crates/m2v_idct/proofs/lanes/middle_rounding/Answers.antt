use Rattle.std.proofs.Common.{arith, refl, List, [], ◌∷◌, All, ℤ, pos, ◌+ℤ◌}
use Rattle.std.proofs.lemmas.Int.{ints}
use Rattle.m2v_idct.specs.Ranges.{Within}
use Rattle.m2v_idct.proofs.FourLanes.{asked, four_within, zipped, zipped_within, sum_bound}
use Rattle.m2v_idct.proofs.lanes.middle_rounding.Goals as goal

abbrev constants : List ℤ
constants = pos 0 ∷ pos 128 ∷ pos 128 ∷ pos 0 ∷ []

small : All (Within 128) constants
small = four_within 128 _ _ _ _ (omega (arith, ints), omega (arith, ints)) (omega (arith, ints), omega (arith, ints)) (omega (arith, ints), omega (arith, ints)) (omega (arith, ints), omega (arith, ints))

pub overflow_add-result : goal.overflow_add-result
overflow_add-result c = asked 1650000000 128 2000000000 (λ (a b : ℤ). a +ℤ b) (sum_bound 1650000000 128 2000000000 (omega arith)) (omega arith) (omega arith) (omega arith) c.args.x constants c.requires small

pub returns : goal.returns
returns c =
    let e = zipped 1650000000 128 2000000000 (λ (a b : ℤ). a +ℤ b) (sum_bound 1650000000 128 2000000000 (omega arith)) (omega arith) (omega arith) (omega arith) c.args.x constants c.requires small in
    rw e
    (record {
      value = refl;
      within = zipped_within 1650000000 128 2000000000 (λ (a b : ℤ). a +ℤ b) (sum_bound 1650000000 128 2000000000 (omega arith)) (omega arith) (omega arith) (omega arith) c.args.x constants c.requires small;
    })
