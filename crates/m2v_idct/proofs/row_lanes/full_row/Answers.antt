use Rattle.std.proofs.Common.{ℕ, ◌<◌, ◌∙◌, List, arith, get_or, ℤ, pos}
use Rattle.m2v_idct.specs.RowSums.{both_ways}
use Rattle.m2v_idct.proofs.RowSteps.{added, again, again_within, middle_odd, middle_odd_within, odd_told_within, row_by_sums, shifted_down, subtracted}
use Rattle.m2v_idct.proofs.row_lanes.full_row.Goals as goal

abbrev g : List ℤ → ℕ → ℤ
g b k = get_or b k (pos 0)

pub scale_middle-o-requires-clause-within : goal.scale_middle-o-requires-clause-within
scale_middle-o-requires-clause-within c = odd_told_within c.odd.result (g c.args.b.now) (λ k lt. c.requires k (pos 0) (omega arith)) c.odd.ensures.value

pub plus-requires-clause-x : goal.plus-requires-clause-x
plus-requires-clause-x c = again_within 1000000000 1000000000 c.even-e.result (omega arith) (omega arith) c.even-e.ensures.within

pub plus-requires-clause-y : goal.plus-requires-clause-y
plus-requires-clause-y c =
    middle_odd_within c.odd.result c.scale_middle-o.result (g c.args.b.now) (λ k lt. c.requires k (pos 0) (omega arith)) c.odd.ensures.value c.scale_middle-o.ensures

pub shifted-requires-clause-within : goal.shifted-requires-clause-within
shifted-requires-clause-within c = again_within 2000000000 2000000000 c.plus.result (omega arith) (omega arith) c.plus.ensures.within

pub minus-requires-clause-x : goal.minus-requires-clause-x
minus-requires-clause-x c = again_within 1000000000 1000000000 c.even-e.result (omega arith) (omega arith) c.even-e.ensures.within

pub minus-requires-clause-y : goal.minus-requires-clause-y
minus-requires-clause-y c =
    middle_odd_within c.odd.result c.scale_middle-o.result (g c.args.b.now) (λ k lt. c.requires k (pos 0) (omega arith)) c.odd.ensures.value c.scale_middle-o.ensures

pub shifted-requires-2-clause-within : goal.shifted-requires-2-clause-within
shifted-requires-2-clause-within c = again_within 2000000000 2000000000 c.minus.result (omega arith) (omega arith) c.minus.ensures.within

pub joined-requires-clause-left_within : goal.joined-requires-clause-left_within
joined-requires-clause-left_within c = again_within 1000000000 1000000000 c.shifted.result (omega arith) (omega arith) c.shifted.ensures.within

pub joined-requires-clause-right_within : goal.joined-requires-clause-right_within
joined-requires-clause-right_within c = again_within 1000000000 1000000000 c.shifted-2.result (omega arith) (omega arith) c.shifted-2.ensures.within

pub returns : goal.returns
returns c =
    let b = g c.args.b.now in
    let small = λ (k : ℕ) (lt : k < 8). c.requires k (pos 0) (omega arith) in
    let e = again 1000000000 c.even-e.result (omega arith) c.even-e.ensures.within ∙ c.even-e.ensures.value in
    let o = middle_odd c.odd.result c.scale_middle-o.result b small c.odd.ensures.value c.scale_middle-o.ensures in
    let up = added 2000000000 c.even-e.result c.scale_middle-o.result c.plus.result _ _ (omega arith) e o c.plus.ensures.value c.plus.ensures.within in
    let down = subtracted 2000000000 c.even-e.result c.scale_middle-o.result c.minus.result _ _ (omega arith) e o c.minus.ensures.value c.minus.ensures.within in
    let left = shifted_down c.plus.result c.shifted.result _ up c.shifted.ensures.value c.shifted.ensures.within in
    let right = shifted_down c.minus.result c.shifted-2.result _ down c.shifted-2.ensures.value c.shifted-2.ensures.within in
    c.joined.ensures ∙ (λ i. both_ways (left i) (right i)) ∙ row_by_sums b
