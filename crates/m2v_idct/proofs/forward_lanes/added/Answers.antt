use Rattle.std.proofs.Common.{arith, refl, ◌+ℤ◌, ℤ}
use Rattle.m2v_idct.proofs.FourLanes.{asked, sum_bound, zipped, zipped_within}
use Rattle.m2v_idct.proofs.forward_lanes.added.Goals as goal

pub overflow_add-result : goal.overflow_add-result
overflow_add-result c = asked 268435456 268435456 536870912 (λ (a b : ℤ). a +ℤ b) (sum_bound 268435456 268435456 536870912 (omega arith)) (omega arith) (omega arith) (omega arith) c.args.x c.args.y c.requires.x c.requires.y

pub returns : goal.returns
returns c =
    rw (zipped 268435456 268435456 536870912 (λ (a b : ℤ). a +ℤ b) (sum_bound 268435456 268435456 536870912 (omega arith)) (omega arith) (omega arith) (omega arith) c.args.x c.args.y c.requires.x c.requires.y)
    (record {
      value = refl;
      within = zipped_within 268435456 268435456 536870912 (λ (a b : ℤ). a +ℤ b) (sum_bound 268435456 268435456 536870912 (omega arith)) (omega arith) (omega arith) (omega arith) c.args.x c.args.y c.requires.x c.requires.y;
    })
