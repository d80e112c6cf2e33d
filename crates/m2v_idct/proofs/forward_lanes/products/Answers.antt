use Rattle.std.proofs.Common.{arith, refl, ◌*ℤ◌, ℤ}
use Rattle.m2v_idct.proofs.FourLanes.{product_bound, zipped, zipped_within, asked}
use Rattle.m2v_idct.proofs.AllLanes.{widened, wider}
use Rattle.m2v_idct.proofs.forward_lanes.products.Goals as goal

pub overflow_mul-result : goal.overflow_mul-result
overflow_mul-result c =
    rw (widened c.args.x c.requires.x, widened c.args.y (wider 4096 32767 (omega arith) c.args.y c.requires.y))
    (asked 32767 4096 134217728 (λ (a b : ℤ). a *ℤ b) (product_bound 32767 4096 134217728 (omega arith)) (omega arith) (omega arith) (omega arith) c.args.x c.args.y c.requires.x c.requires.y)

pub returns : goal.returns
returns c =
    rw (widened c.args.x c.requires.x, widened c.args.y (wider 4096 32767 (omega arith) c.args.y c.requires.y))
    (rw (zipped 32767 4096 134217728 (λ (a b : ℤ). a *ℤ b) (product_bound 32767 4096 134217728 (omega arith)) (omega arith) (omega arith) (omega arith) c.args.x c.args.y c.requires.x c.requires.y)
    (record {
      value = refl;
      within = zipped_within 32767 4096 134217728 (λ (a b : ℤ). a *ℤ b) (product_bound 32767 4096 134217728 (omega arith)) (omega arith) (omega arith) (omega arith) c.args.x c.args.y c.requires.x c.requires.y;
    }))
