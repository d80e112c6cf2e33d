use Rattle.std.proofs.Common.{ℕ, ◌+◌, ◌*◌, get_or, ◌∙◌, arith, inl, inr}
use Rattle.std.proofs.lemmas.Bool.{cases_lt}
use Rattle.m2v_search.specs.Bounds.{column_sum, part_sum}
use Rattle.m2v_search.proofs.Slides.{column_most, four_known, sums_more, no_sums}
use Rattle.m2v_search.proofs.sliding.put_narrow_sums.Goals as goal

pub loop-line-init : goal.loop-line-init
loop-line-init c = record {
  columns = c.columns_at-columns.ensures.value;
  rest = c.columns_at-columns.ensures.rest;
  sums = no_sums (λ i. get_or c.args.window.now i 0) c.args.first (λ i. get_or c.args.sums.now i 0);
}

pub put_line_sums-requires-clause-most : goal.put_line_sums-requires-clause-most
put_line_sums-requires-clause-most c = λ k. elim (cases_lt k 48) [
  | inl lt ↦
      let f = λ (i : ℕ). get_or c.args.window.now i 0 in
      omega (arith, c.loop-line.invariant.columns k lt, column_most f (λ i. omega (arith, c.type_inv.window i)) (48 * c.loop-line.line + k))
  | inr le ↦ omega (arith, c.loop-line.invariant.rest k le)
]

pub loop-line-preserved : goal.loop-line-preserved
unfolding part_sum
loop-line-preserved c =
    let f = λ (i : ℕ). get_or c.args.window.now i 0 in
    record {
      columns = c.next_columns.ensures.value;
      rest = λ k le. c.next_columns.ensures.rest k le ∙ c.loop-line.invariant.rest k le;
      sums = sums_more f c.args.first c.loop-line.line c.loop-line.sums c.put_line_sums.new.sums c.loop-line.invariant.sums
          (λ k lt. c.put_line_sums.ensures.value k lt
          ∙ four_known c.loop-line.columns (column_sum 48 f) (48 * c.loop-line.line) k (λ j le below. c.loop-line.invariant.columns j (omega arith)))
          c.put_line_sums.ensures.before;
    }
