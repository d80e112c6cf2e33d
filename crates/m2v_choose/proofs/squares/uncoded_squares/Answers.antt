use Rattle.std.proofs.Common.{◌≡◌, ℕ, Bool, cond, arith, ap, ◌∙◌}
use Rattle.std.specs.Prelude.{slice_index}
use Rattle.m2v_recon.specs.Macro.{is_coded}
use Rattle.m2v_choose.specs.Trials.{uncoded_squared}
use Rattle.m2v_choose.proofs.Sums.{sum_more}
use Rattle.m2v_choose.proofs.PartSquares.{left_low}
use Rattle.m2v_choose.proofs.squares.uncoded_squares.Goals as goal

pub loop-block-preserved : goal.loop-block-preserved
loop-block-preserved c =
    let n = c.loop-block.block in
    let own = slice_index c.args.squares.now n in
    let f = λ (b : ℕ). cond (is_coded c.args.pattern b) 0 (slice_index c.args.squares.now b) in
    let same : c.uncoded_square-sum.result ≡ f n = c.uncoded_square-sum.ensures ∙ ap (λ (k : Bool). cond k 0 own) c.is_coded.ensures.value in
    let low = left_low (is_coded c.args.pattern n) own 8323200 (c.requires.most n (omega arith)) in
    record {
      value = omega (arith, sum_more f n, c.loop-block.invariant.value, same);
      most = omega (arith, c.loop-block.invariant.most, same, low);
    }

pub returns : goal.returns
unfolding uncoded_squared
returns c =
    let end : c.loop-block.block ≡ 6 = omega arith in
    record {
      value = rw end at c.loop-block.invariant.value;
      most = omega (arith, c.loop-block.invariant.most, end);
    }
