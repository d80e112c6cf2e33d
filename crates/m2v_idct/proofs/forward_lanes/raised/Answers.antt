use Rattle.std.proofs.Common.{arith, replicate, ◌∙◌, ◌*ℤ◌, ℤ, pos}
use Rattle.std.proofs.lemmas.Int.{ints}
use Rattle.std.proofs.lemmas.Simd.{zip2_splat_left}
use Rattle.m2v_idct.proofs.AllLanes.{all_same}
use Rattle.m2v_idct.proofs.FourLanes.{asked, product_bound, zipped}
use Rattle.m2v_idct.proofs.forward_lanes.raised.Goals as goal

pub overflow_mul-result : goal.overflow_mul-result
overflow_mul-result c =
    asked 65536 1100 72089600 (λ (a b : ℤ). a *ℤ b) (product_bound 65536 1100 72089600 (omega arith)) (omega arith) (omega arith) (omega arith)
    (replicate 8 (pos 65536)) c.args.x (all_same 65536 (pos 65536) (omega (arith, ints), omega (arith, ints))) c.requires.within

pub returns : goal.returns
returns c =
    zipped 65536 1100 72089600 (λ (a b : ℤ). a *ℤ b) (product_bound 65536 1100 72089600 (omega arith)) (omega arith) (omega arith) (omega arith)
    (replicate 8 (pos 65536)) c.args.x (all_same 65536 (pos 65536) (omega (arith, ints), omega (arith, ints))) c.requires.within
    ∙ zip2_splat_left (λ (a b : ℤ). a *ℤ b) (pos 65536) 8 c.args.x c.requires.len
