use Rattle.std.proofs.Common.{arith, ℤ, refl, ◌-ℤ◌}
use Rattle.m2v_idct.proofs.FourLanes.{asked, zipped, zipped_within, difference_bound}
use Rattle.m2v_idct.proofs.lanes.minus.Goals as goal

pub overflow_sub-result : goal.overflow_sub-result
overflow_sub-result c = asked 1000000000 1000000000 2000000000 (λ (a b : ℤ). a -ℤ b) (difference_bound 1000000000 1000000000 2000000000 (omega arith)) (omega arith) (omega arith) (omega arith) c.args.x c.args.y c.requires.x c.requires.y

pub returns : goal.returns
returns c =
    rw (zipped 1000000000 1000000000 2000000000 (λ (a b : ℤ). a -ℤ b) (difference_bound 1000000000 1000000000 2000000000 (omega arith)) (omega arith) (omega arith) (omega arith) c.args.x c.args.y c.requires.x c.requires.y)
    (record {
      value = refl;
      within = zipped_within 1000000000 1000000000 2000000000 (λ (a b : ℤ). a -ℤ b) (difference_bound 1000000000 1000000000 2000000000 (omega arith)) (omega arith) (omega arith) (omega arith) c.args.x c.args.y c.requires.x c.requires.y;
    })
