use Rattle.std.proofs.Common.{◌∙◌, arith, drop, ◌*◌, ◌/◌, ◌≡◌, length, take, ap}
use Rattle.std.specs.Prelude.{sum}
use Rattle.m2v_dec_batch.proofs.Sums.{block_few, block_summed, rest_summed}
use Rattle.m2v_dec_batch.proofs.pieces.sum_all.Goals as goal

pub loop-block-preserved : goal.loop-block-preserved
loop-block-preserved c =
    let few = block_few c.sum_few-all.result c.loop-block.block (drop (64 * c.loop-block.block) c.args.samples.now) c.sum_few-all.ensures.most in
    record {
      value = block_summed c.args.samples.now c.loop-block.block c.loop-block.all c.sum_few-all.result c.loop-block.invariant.value c.sum_few-all.ensures.value;
      most = omega (arith, c.loop-block.invariant.most, few);
    }

pub returns-clause-value : goal.returns-clause-value
returns-clause-value c =
    let n = length c.args.samples.now / 64 in
    let end : c.loop-block.block ≡ n = omega (arith, c.loop-block-test.false, c.loop-block.auto.block-end) in
    let so_far = c.loop-block.invariant.value ∙ ap (λ k. sum (take (64 * k) c.args.samples.now)) end in
    c.from.ensures ∙ rest_summed c.args.samples.now (64 * n) c.loop-block.all c.sum_few.result (omega arith) so_far c.sum_few.ensures.value
