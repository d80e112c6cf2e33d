use Rattle.std.proofs.Common.{arith}
use Rattle.m2v_search.proofs.sliding.put_sums.Goals as goal

pub returns-then-count-eq16 : goal.returns-then-count-eq16
returns-then-count-eq16 c = record { value = record { narrow = λ is. absurd (omega arith); wide = λ is. c.put_wide_sums.ensures.value } }

pub returns-else-count-eq16 : goal.returns-else-count-eq16
returns-else-count-eq16 c = record { value = record { narrow = λ is. c.put_narrow_sums.ensures.value; wide = λ is. absurd (omega arith) } }
