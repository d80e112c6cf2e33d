use Rattle.std.proofs.Common.{arith, refl}
use mir.Syntax.{w32}
use Rattle.m2v_idct.proofs.AllLanes.{fits_word, told_within}
use Rattle.m2v_idct.proofs.ForwardSteps.{carry_within, half_within, rounded_are, rounded_within, sum_within}
use Rattle.m2v_idct.proofs.forward_lanes.rounded_lanes.Goals as goal

pub with_half-requires-clause-within : goal.with_half-requires-clause-within
with_half-requires-clause-within c = told_within w32 2147483647 fits_word 536870912 c.args.low (omega arith) c.requires.low

pub dropped-requires-clause-within : goal.dropped-requires-clause-within
dropped-requires-clause-within c = half_within c.args.high c.args.low c.requires.high c.requires.low c.with_half.result _ _ c.with_half.ensures refl refl

pub carried-requires-clause-x : goal.carried-requires-clause-x
carried-requires-clause-x c = told_within w32 2147483647 fits_word 536870912 c.args.high (omega arith) c.requires.high

pub carried-requires-clause-y : goal.carried-requires-clause-y
carried-requires-clause-y c = carry_within c.args.high c.args.low c.requires.high c.requires.low c.with_half.result c.dropped.result _ c.with_half.ensures c.dropped.ensures refl

pub dropped-requires-2-clause-within : goal.dropped-requires-2-clause-within
dropped-requires-2-clause-within c = sum_within c.args.high c.args.low c.requires.high c.requires.low c.with_half.result c.dropped.result c.carried.result c.with_half.ensures c.dropped.ensures c.carried.ensures

pub returns : goal.returns
returns c =
    let h = c.args.high in let l = c.args.low in
    let r = c.dropped-2.result in
    record {
      value = rounded_are h l c.requires.high c.requires.low c.with_half.result c.dropped.result c.carried.result c.with_half.ensures c.dropped.ensures c.carried.ensures r c.dropped-2.ensures;
      within = rounded_within h l c.requires.high c.requires.low c.with_half.result c.dropped.result c.carried.result c.with_half.ensures c.dropped.ensures c.carried.ensures r c.dropped-2.ensures;
    }
