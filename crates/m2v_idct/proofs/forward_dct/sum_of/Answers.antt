use Rattle.std.proofs.Common.{◌<◌, length, get_or, refl, arith, pos}
use Rattle.std.proofs.lemmas.Int.{ints}
use Rattle.m2v_idct.specs.Sums.{sum_below}
use Rattle.m2v_idct.proofs.Sums.{sum_below-more}
use Rattle.m2v_idct.proofs.forward_dct.sum_of.Goals as goal

pub loop-sample-init : goal.loop-sample-init
unfolding sum_below
loop-sample-init c = record { value = refl; low = omega (arith, ints); high = omega (arith, ints) }

pub loop-sample-preserved : goal.loop-sample-preserved
loop-sample-preserved c =
    let f = c.args.f.now in
    let k = c.loop-sample.sample-index in
    let inside : k < length f = omega arith in
    let r = c.requires k (pos 0) inside in
    let low = c.loop-sample.invariant.low in
    let high = c.loop-sample.invariant.high in
    record {
      value = omega (arith, ints, sum_below-more k (λ i. get_or f i (pos 0)), c.loop-sample.invariant.value);
      low = omega (arith, ints);
      high = omega (arith, ints);
    }
