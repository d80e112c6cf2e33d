use Rattle.std.proofs.Common.{◌+◌, arith, ◌∙◌}
use Rattle.m2v_search.proofs.parts.put_wide_line.Goals as goal

pub returns : goal.returns
returns c =
    let four = c.column_fours-fours.ensures.value in
    record {
      value = λ k lt. c.loop-k.invariant.value k (omega arith) ∙ (λ t. four k (omega arith) t + four (k + 4) (omega arith) t);
      before = c.loop-k.invariant.before;
    }
