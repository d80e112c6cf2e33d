use Rattle.std.proofs.Common.{◌≡◌, ℕ, ◌*◌, ◌∙◌, ap, arith}
use Rattle.std.specs.Prelude.{min, slice_index}
use Rattle.m2v_choose.proofs.Sums.{sum_more}
use Rattle.m2v_choose.proofs.squares.least_blocks.Goals as goal

pub loop-block-preserved : goal.loop-block-preserved
loop-block-preserved c =
    let n = c.loop-block.block in
    let f = λ (b : ℕ). min (8 * slice_index c.args.squares.now b) c.args.four in
    let same : c.min-sum.result ≡ f n = c.min-sum.ensures ∙ ap (λ (k : ℕ). min (8 * k) c.args.four) c.from.ensures in
    let low = c.requires.most n (omega arith) in
    record {
      value = omega (arith, sum_more f n, c.loop-block.invariant.value, same);
      most = omega (arith, c.loop-block.invariant.most, same, low);
    }
