use Rattle.std.proofs.Common.{length, arith, refl, ◌≡◌, ◌∙◌, take}
use Rattle.std.specs.List.{sum}
use lib.Lanes.{zip2, sum_l}
use Rattle.m2v_kernel.specs.Sums.{apart}
use Rattle.m2v_kernel.proofs.Steps.{sad_step, summed_all}
use Rattle.m2v_kernel.proofs.difference.sad_four.Goals as goal

pub returns-clause-sum : goal.returns-clause-sum
returns-clause-sum c =
    let xs = c.args.a.now in let ys = c.args.b.now in
    let same : length xs ≡ length ys = omega arith in
    let s1 : sum_l c.far_lanes-first.result ≡ sum (take 16 (zip2 apart xs ys)) = omega (arith, sad_step xs ys 0 16 0 (sum_l c.far_lanes-first.result) (omega arith) refl c.far_lanes-first.ensures.sum) in
    let s2 = sad_step xs ys 16 32 (sum_l c.far_lanes-first.result) _ (omega arith) s1 c.far_lanes-second.ensures.sum in
    let s3 = sad_step xs ys 32 48 _ _ (omega arith) s2 c.far_lanes-third.ensures.sum in
    let s4 = sad_step xs ys 48 64 _ _ (omega arith) s3 c.far_lanes-fourth.ensures.sum in
    omega (arith, c.total.ensures, c.plus.ensures.sum, c.plus-2.ensures.sum, c.plus-3.ensures.sum, s4 ∙ summed_all xs ys 64 same (omega arith))
