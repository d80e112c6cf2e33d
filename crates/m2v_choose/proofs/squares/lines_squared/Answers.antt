use Rattle.std.proofs.Common.{◌≡◌, ℕ, ◌+◌, ◌*◌, arith, ap, sym, ◌∙◌}
use Rattle.std.specs.List.{range_with_len, sum_by}
use Rattle.std.specs.Simd.Lanes.{sum_l}
use Rattle.m2v_choose.specs.Choice.{square_at}
use Rattle.m2v_choose.specs.Decisions.{block_place}
use Rattle.m2v_choose.specs.Trials.{block_squared}
use Rattle.m2v_choose.proofs.Sums.{sum_more}
use Rattle.m2v_choose.proofs.squares.lines_squared.Goals as goal

pub loop-line-preserved : goal.loop-line-preserved
loop-line-preserved c =
    let n = c.loop-line.line in
    let line = λ (from : ℕ). sum_by (λ i. square_at c.args.source.now.at c.args.samples.now.at (from + i)) (range_with_len 0 8) in
    let begins = λ (l : ℕ). block_place c.args.dct_field c.args.block (8 * l) in
    let zero : 8 * n + 0 ≡ 8 * n = omega arith in
    let at : begins n ≡ c.line_place-from.result + 0 = ap (block_place c.args.dct_field c.args.block) (sym zero) ∙ c.line_place-from.ensures.value 0 (omega arith) in
    let none : c.line_place-from.result + 0 ≡ c.line_place-from.result = omega arith in
    let same : sum_l c.eight_lanes.result ≡ line (begins n) = c.eight_lanes.ensures.sum ∙ ap line (sym (at ∙ none)) in
    record {
      len = c.plus-sums.ensures.len;
      value = omega (arith, sum_more (λ l. line (begins l)) n, c.loop-line.invariant.value, same, c.plus-sums.ensures.sum);
      most = omega (arith, c.loop-line.invariant.most, c.eight_lanes.ensures.most, c.plus-sums.ensures.sum);
    }

pub returns : goal.returns
unfolding block_squared
returns c =
    let end : c.loop-line.line ≡ 8 = omega arith in
    record {
      value = c.total.ensures ∙ (rw end at c.loop-line.invariant.value);
      most = omega (arith, c.loop-line.invariant.most, end, c.total.ensures);
    }
