use Rattle.std.proofs.Common.{◌∙◌, arith}
use Rattle.std.proofs.lemmas.Int.{to_z-of_z}
use mir.Syntax.{w16, w32}
use Rattle.m2v_idct.specs.ForwardLanes.{all_rounded}
use Rattle.m2v_idct.proofs.AllLanes.{fits_word, told_is, told_within, wider}
use Rattle.m2v_idct.proofs.ForwardColumns.{two_weighed}
use Rattle.m2v_idct.proofs.forward_columns.odd_line.Goals as goal

pub odd_sums-requires-clause-outer : goal.odd_sums-requires-clause-outer
odd_sums-requires-clause-outer c = c.requires.high_outer

pub odd_sums-requires-clause-inner : goal.odd_sums-requires-clause-inner
odd_sums-requires-clause-inner c = c.requires.high_inner

pub odd_sums-requires-2-clause-outer : goal.odd_sums-requires-2-clause-outer
odd_sums-requires-2-clause-outer c = c.requires.low_outer

pub odd_sums-requires-2-clause-inner : goal.odd_sums-requires-2-clause-inner
odd_sums-requires-2-clause-inner c = c.requires.low_inner

pub rounded_lanes-requires-clause-high : goal.rounded_lanes-requires-clause-high
rounded_lanes-requires-clause-high c = told_within w32 2147483647 fits_word 536870912 c.odd_sums.result (omega arith) c.odd_sums.ensures.within

pub rounded_lanes-requires-clause-low : goal.rounded_lanes-requires-clause-low
rounded_lanes-requires-clause-low c = told_within w32 2147483647 fits_word 536870912 c.odd_sums-2.result (omega arith) c.odd_sums-2.ensures.within

pub returns : goal.returns
returns c =
    let ea = to_z-of_z w16 c.args.a c.ranges.a in let eb = to_z-of_z w16 c.args.b c.ranges.b in
    let ec = to_z-of_z w16 c.args.c c.ranges.c in let ed = to_z-of_z w16 c.args.d c.ranges.d in
    let x = c.args.high in let y = c.args.low in
    let h = told_is w32 2147483647 fits_word c.odd_sums.result (wider 536870912 2147483647 (omega arith) c.odd_sums.result c.odd_sums.ensures.within) ∙ c.odd_sums.ensures.value
    ∙ (λ i. two_weighed x.outer x.inner (ea i) (eb i) (ec i) (ed i)) in
    let l = told_is w32 2147483647 fits_word c.odd_sums-2.result (wider 536870912 2147483647 (omega arith) c.odd_sums-2.result c.odd_sums-2.ensures.within) ∙ c.odd_sums-2.ensures.value
    ∙ (λ i. two_weighed y.outer y.inner (ea i) (eb i) (ec i) (ed i)) in
    let r = c.rounded_lanes.result in
    record {
      value = told_is w32 2147483647 fits_word r (wider 600000000 2147483647 (omega arith) r c.rounded_lanes.ensures.within) ∙ c.rounded_lanes.ensures.value ∙ (λ i. all_rounded (h i) (l i));
      within = told_within w32 2147483647 fits_word 600000000 r (omega arith) c.rounded_lanes.ensures.within;
    }
