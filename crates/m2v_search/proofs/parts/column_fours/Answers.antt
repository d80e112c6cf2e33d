use Rattle.std.proofs.Common.{ℕ, ◌+◌, arith, ◌∙◌}
use Rattle.std.proofs.lemmas.List.{length-replicate}
use Rattle.m2v_search.specs.Bounds.{four_sum}
use Rattle.m2v_search.proofs.Slides.{zeros}
use Rattle.m2v_search.proofs.parts.column_fours.Goals as goal

pub loop-k-init : goal.loop-k-init
loop-k-init c = record { len = length-replicate {A = ℕ} 56 0; value = λ k lt. absurd (omega arith); most = λ k. omega (arith, zeros 56 k) }

pub returns : goal.returns
unfolding four_sum
returns c =
    let pair = c.column_pairs-pairs.ensures.value in
    record {
      value = λ k lt. c.loop-k.invariant.value k (omega arith) ∙ (λ t. pair k (omega arith) t + pair (k + 1) (omega arith) t);
      most = c.loop-k.invariant.most;
    }
