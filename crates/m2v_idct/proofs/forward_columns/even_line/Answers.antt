use Rattle.std.proofs.Common.{◌∙◌, arith}
use Rattle.std.proofs.lemmas.Int.{to_z-of_z}
use mir.Syntax.{w16, w32}
use Rattle.m2v_idct.specs.ForwardLanes.{all_rounded}
use Rattle.m2v_idct.proofs.AllLanes.{fits_short, fits_word, told_is, told_within, wider}
use Rattle.m2v_idct.proofs.ForwardColumns.{weights_told}
use Rattle.m2v_idct.proofs.forward_columns.even_line.Goals as goal

pub weigh-requires-clause-x : goal.weigh-requires-clause-x
weigh-requires-clause-x c = told_within w16 32767 fits_short 32767 c.args.high (omega arith) c.requires.high

pub weigh-requires-2-clause-x : goal.weigh-requires-2-clause-x
weigh-requires-2-clause-x c = told_within w16 32767 fits_short 32767 c.args.low (omega arith) c.requires.low

pub rounded_lanes-requires-clause-high : goal.rounded_lanes-requires-clause-high
rounded_lanes-requires-clause-high c = wider 268435456 536870912 (omega arith) _ (told_within w32 2147483647 fits_word 268435456 c.weigh.result (omega arith) c.weigh.ensures.within)

pub rounded_lanes-requires-clause-low : goal.rounded_lanes-requires-clause-low
rounded_lanes-requires-clause-low c = wider 268435456 536870912 (omega arith) _ (told_within w32 2147483647 fits_word 268435456 c.weigh-2.result (omega arith) c.weigh-2.ensures.within)

pub returns : goal.returns
returns c =
    let a = to_z-of_z w16 c.args.a c.ranges.a in let b = to_z-of_z w16 c.args.b c.ranges.b in
    let h = weights_told c.args.high c.weigh.result c.args.a c.args.b _ _ c.requires.high a b c.weigh.ensures.value c.weigh.ensures.within in
    let l = weights_told c.args.low c.weigh-2.result c.args.a c.args.b _ _ c.requires.low a b c.weigh-2.ensures.value c.weigh-2.ensures.within in
    let r = c.rounded_lanes.result in
    record {
      value = told_is w32 2147483647 fits_word r (wider 600000000 2147483647 (omega arith) r c.rounded_lanes.ensures.within) ∙ c.rounded_lanes.ensures.value ∙ (λ i. all_rounded (h i) (l i));
      within = told_within w32 2147483647 fits_word 600000000 r (omega arith) c.rounded_lanes.ensures.within;
    }
