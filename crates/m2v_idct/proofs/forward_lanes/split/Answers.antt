use Rattle.std.proofs.Common.{[], arith, refl}
use mir.Syntax.{w32}
use Rattle.m2v_idct.proofs.AllLanes.{fits_word, told_as_within, told_within}
use Rattle.m2v_idct.proofs.ForwardSteps.{high_is, highs_small, low_is, lows_small, part_told, part_within, raised_within, rest_within}
use Rattle.m2v_idct.proofs.forward_lanes.split.Goals as goal

pub above-high-requires-clause-within : goal.above-high-requires-clause-within
above-high-requires-clause-within c = told_within w32 2147483647 fits_word 67200000 c.args.x (omega arith) c.requires.within

pub raised-requires-clause-within : goal.raised-requires-clause-within
raised-requires-clause-within c =
    told_as_within w32 2147483647 fits_word 1100 c.above-high.result _ (omega arith) (high_is c.args.x c.requires.within c.above-high.result c.above-high.ensures) (highs_small c.args.x c.requires.within)

pub less-requires-clause-x : goal.less-requires-clause-x
less-requires-clause-x c = told_within w32 2147483647 fits_word 67200000 c.args.x (omega arith) c.requires.within

pub less-requires-clause-y : goal.less-requires-clause-y
less-requires-clause-y c = raised_within c.args.x c.requires.within c.above-high.result c.raised.result _ [] c.above-high.ensures c.raised.ensures refl

pub eighths-low-requires-clause-within : goal.eighths-low-requires-clause-within
eighths-low-requires-clause-within c = rest_within c.args.x c.requires.within c.above-high.result c.raised.result c.less.result [] c.above-high.ensures c.raised.ensures c.less.ensures

pub narrow-requires : goal.narrow-requires
narrow-requires c = part_within 1100 c.above-high.result _ (omega arith) (high_is c.args.x c.requires.within c.above-high.result c.above-high.ensures) (highs_small c.args.x c.requires.within)

pub narrow-requires-2 : goal.narrow-requires-2
narrow-requires-2 c =
    part_within 8191 c.eighths-low.result _ (omega arith)
    (low_is c.args.x c.requires.within c.above-high.result c.raised.result c.less.result c.eighths-low.result c.above-high.ensures c.raised.ensures c.less.ensures c.eighths-low.ensures)
    (lows_small c.args.x c.requires.within)

pub returns : goal.returns
returns c = record {
  high = part_told 1100 c.above-high.result _ c.narrow.result (omega arith) (high_is c.args.x c.requires.within c.above-high.result c.above-high.ensures) (highs_small c.args.x c.requires.within) c.narrow.ensures;
  low = part_told 8191 c.eighths-low.result _ c.narrow-2.result (omega arith)
      (low_is c.args.x c.requires.within c.above-high.result c.raised.result c.less.result c.eighths-low.result c.above-high.ensures c.raised.ensures c.less.ensures c.eighths-low.ensures)
      (lows_small c.args.x c.requires.within) c.narrow-2.ensures;
}
