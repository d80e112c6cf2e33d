use Rattle.std.proofs.Common.{◌+◌, arith, ◌∙◌}
use Rattle.m2v_search.specs.Bounds.{four_sum}
use Rattle.m2v_search.proofs.parts.put_line_sums.Goals as goal

pub returns : goal.returns
unfolding four_sum
returns c =
    let pair = c.column_pairs-pairs.ensures.value in
    record {
      value = λ k lt. c.loop-k.invariant.value k (omega arith) ∙ (λ t. pair k (omega arith) t + pair (k + 1) (omega arith) t);
      before = c.loop-k.invariant.before;
    }
