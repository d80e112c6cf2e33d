use Rattle.std.proofs.Common.{ℕ, ◌≡◌, ◌+◌, ◌*◌, ◌/◌, ◌≤◌, ◌∙◌, ap, arith}
use Rattle.std.proofs.Math.Nat.{mul-le-mul}
use Rattle.m2v_plane.specs.declared.dims.Dims.{Dims}
use Rattle.m2v_plane.specs.Sizes.{side}
use Rattle.m2v_dec_batch.proofs.Sums.{none_summed, line_summed, line_few}
use Rattle.m2v_dec_batch.proofs.pieces.sum_of.Goals as goal

pub loop-line-init : goal.loop-line-init
loop-line-init c = record { value = none_summed c.args.row.now c.args.plane; most = omega arith }

narrow : (width w : ℕ) → width ≤ 1920 → w ≡ (width + 15) / 16 → w ≤ 120
narrow width w le e = omega (arith, le, e)

pub sum_all-sum-requires : goal.sum_all-sum-requires
sum_all-sum-requires c = record {
  few = omega (arith, line_few c.args.row.now c.args.plane c.loop-line.line _ c.line.result.now c.line.ensures.value, mul-le-mul c.side.ensures.most (narrow c.dims.result.width c.dims.result.mb_width c.dims.ensures.size.width c.dims.ensures.size.mb_width));
}

pub loop-line-preserved : goal.loop-line-preserved
loop-line-preserved c = record {
  value = line_summed c.args.row.now c.args.plane c.loop-line.line c.loop-line.sum c.sum_all-sum.result _ c.line.result.now c.loop-line.invariant.value c.sum_all-sum.ensures.value c.line.ensures.value
      (ap (λ k. k * c.dims.result.mb_width) c.side.ensures.value ∙ ap (λ (d : Dims). side c.args.plane * d.mb_width) c.dims.ensures.value);
  most = omega (arith, c.loop-line.invariant.most, c.sum_all-sum.ensures.most);
}
