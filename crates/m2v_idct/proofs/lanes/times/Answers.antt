use Rattle.std.proofs.Common.{arith, ℤ, refl, ◌*ℤ◌}
use Rattle.m2v_idct.proofs.FourLanes.{asked, zipped, zipped_within, product_bound}
use Rattle.m2v_idct.proofs.lanes.times.Goals as goal

pub overflow_mul-result : goal.overflow_mul-result
overflow_mul-result c = asked 4096 2048 8388608 (λ (a b : ℤ). a *ℤ b) (product_bound 4096 2048 8388608 (omega arith)) (omega arith) (omega arith) (omega arith) c.args.constants c.args.x c.requires.constants c.requires.x

pub returns : goal.returns
returns c =
    rw (zipped 4096 2048 8388608 (λ (a b : ℤ). a *ℤ b) (product_bound 4096 2048 8388608 (omega arith)) (omega arith) (omega arith) (omega arith) c.args.constants c.args.x c.requires.constants c.requires.x)
    (record {
      value = refl;
      within = zipped_within 4096 2048 8388608 (λ (a b : ℤ). a *ℤ b) (product_bound 4096 2048 8388608 (omega arith)) (omega arith) (omega arith) (omega arith) c.args.constants c.args.x c.requires.constants c.requires.x;
    })
