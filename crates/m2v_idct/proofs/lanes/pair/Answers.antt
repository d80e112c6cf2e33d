use Rattle.std.proofs.Common.{arith, ℤ, refl, ◌+ℤ◌}
use Rattle.m2v_idct.proofs.FourLanes.{asked, zipped, zipped_within, sum_bound}
use Rattle.m2v_idct.proofs.lanes.pair.Goals as goal

pub overflow_add-result : goal.overflow_add-result
overflow_add-result c = asked 8388608 8388608 16777216 (λ (a b : ℤ). a +ℤ b) (sum_bound 8388608 8388608 16777216 (omega arith)) (omega arith) (omega arith) (omega arith) c.args.x c.args.y c.requires.x c.requires.y

pub returns : goal.returns
returns c =
    rw (zipped 8388608 8388608 16777216 (λ (a b : ℤ). a +ℤ b) (sum_bound 8388608 8388608 16777216 (omega arith)) (omega arith) (omega arith) (omega arith) c.args.x c.args.y c.requires.x c.requires.y)
    (record {
      value = refl;
      within = zipped_within 8388608 8388608 16777216 (λ (a b : ℤ). a +ℤ b) (sum_bound 8388608 8388608 16777216 (omega arith)) (omega arith) (omega arith) (omega arith) c.args.x c.args.y c.requires.x c.requires.y;
    })
