use Rattle.std.proofs.Common.{arith}
use Rattle.std.proofs.lemmas.Int.{to_z-of_z}
use mir.Syntax.{w16, w32}
use Rattle.m2v_idct.proofs.AllLanes.{fits_short, fits_word, told_within}
use Rattle.m2v_idct.proofs.ForwardSteps.{weighed_told}
use Rattle.m2v_idct.proofs.forward_lanes.weigh.Goals as goal

pub product_sums-requires-clause-x : goal.product_sums-requires-clause-x
product_sums-requires-clause-x c = told_within w16 32767 fits_short 32767 c.args.x (omega arith) c.requires.x

pub product_sums-requires-clause-y : goal.product_sums-requires-clause-y
product_sums-requires-clause-y c = told_within w16 32767 fits_short 4096 c.alternating.result (omega arith) c.alternating.ensures.within

pub returns : goal.returns
returns c = record {
  value = weighed_told c.args.x c.alternating.result c.product_sums.result c.args.a c.args.b _ _ c.requires.x (to_z-of_z w16 c.args.a c.ranges.a) (to_z-of_z w16 c.args.b c.ranges.b)
      c.alternating.ensures.value c.alternating.ensures.within c.product_sums.ensures.value c.product_sums.ensures.within;
  within = told_within w32 2147483647 fits_word 268435456 c.product_sums.result (omega arith) c.product_sums.ensures.within;
}
