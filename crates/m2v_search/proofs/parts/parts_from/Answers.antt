use Rattle.std.proofs.Common.{ℕ, ◌≡◌, ◌+◌, ◌≤◌, get_or, ap, ◌∙◌, arith}
use Rattle.m2v_search.specs.Bounds.{column_sum, four_sum, part_sum}
use Rattle.m2v_search.proofs.Slides.{four_known}
use Rattle.m2v_search.proofs.parts.parts_from.Goals as goal

pub returns-clause-value : goal.returns-clause-value
unfolding part_sum
returns-clause-value c =
    let f = λ (i : ℕ). get_or c.args.block.now i 0 in
    let from = c.args.from in
    let here : from + 0 ≡ from = omega arith in
    let known = λ (at : ℕ) (most : at + 4 ≤ 16). four_known c.block_columns-columns.result (column_sum 16 f) from at (λ k le lt. c.block_columns-columns.ensures.value k (omega arith)) in
    record {
      first = c.four_sum-first.ensures.value ∙ known 0 (omega arith) ∙ ap (four_sum (column_sum 16 f)) here;
      second = c.four_sum-second.ensures.value ∙ known 4 (omega arith);
      third = c.four_sum-third.ensures.value ∙ known 8 (omega arith);
      fourth = c.four_sum-fourth.ensures.value ∙ known 12 (omega arith);
    }
