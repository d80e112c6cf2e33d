use Rattle.std.proofs.Common.{arith, replicate, ◌∙◌, ◌+ℤ◌, ℤ, pos}
use Rattle.std.proofs.lemmas.Int.{ints}
use Rattle.std.proofs.lemmas.Simd.{zip2_splat}
use Rattle.m2v_idct.proofs.AllLanes.{all_same}
use Rattle.m2v_idct.proofs.FourLanes.{asked, sum_bound, zipped}
use Rattle.m2v_idct.proofs.forward_lanes.with_half.Goals as goal

pub overflow_add-result : goal.overflow_add-result
overflow_add-result c =
    asked 536870912 33554432 570425344 (λ (a b : ℤ). a +ℤ b) (sum_bound 536870912 33554432 570425344 (omega arith)) (omega arith) (omega arith) (omega arith)
    c.args.x (replicate 8 (pos 33554432)) c.requires.within (all_same 33554432 (pos 33554432) (omega (arith, ints), omega (arith, ints)))

pub returns : goal.returns
returns c =
    zipped 536870912 33554432 570425344 (λ (a b : ℤ). a +ℤ b) (sum_bound 536870912 33554432 570425344 (omega arith)) (omega arith) (omega arith) (omega arith)
    c.args.x (replicate 8 (pos 33554432)) c.requires.within (all_same 33554432 (pos 33554432) (omega (arith, ints), omega (arith, ints)))
    ∙ zip2_splat (λ (a b : ℤ). a +ℤ b) c.args.x 8 (pos 33554432) c.requires.len
