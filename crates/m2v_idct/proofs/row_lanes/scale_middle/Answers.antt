use Rattle.std.proofs.Common.{arith}
use Rattle.m2v_idct.proofs.RowSteps.{again_within, scaled_middle}
use Rattle.m2v_idct.proofs.row_lanes.scale_middle.Goals as goal

pub less_of-requires : goal.less_of-requires
less_of-requires c = again_within 22000000 22000000 c.args.t (omega arith) (omega arith) c.requires.within

pub shifted-requires-clause-within : goal.shifted-requires-clause-within
shifted-requires-clause-within c = again_within 2000000000 2000000000 _ (omega arith) (omega arith) c.middle_rounding.ensures.within

pub plus-requires-clause-x : goal.plus-requires-clause-x
plus-requires-clause-x c = again_within 22000000 1000000000 c.args.t (omega arith) (omega arith) c.requires.within

pub plus-requires-clause-y : goal.plus-requires-clause-y
plus-requires-clause-y c = again_within 1000000000 1000000000 _ (omega arith) (omega arith) c.shifted.ensures.within

pub returns : goal.returns
returns c =
    scaled_middle c.args.t c.less_of.result c.middle_rounding.result c.shifted.result c.plus.result c.requires.len c.requires.within
    c.less_of.ensures.value c.less_of.ensures.within c.middle_rounding.ensures.value c.middle_rounding.ensures.within
    c.shifted.ensures.value c.shifted.ensures.within c.plus.ensures.value c.plus.ensures.within
