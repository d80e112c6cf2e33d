use Rattle.std.proofs.Common.{arith, sym, refl, ◌∙◌}
use Rattle.std.proofs.lemmas.Simd.{length-zip2}
use lib.Lanes.{zip2}
use Rattle.m2v_kernel.specs.Sums.{apart}
use Rattle.m2v_kernel.proofs.Sizes.{lanes_apart, lanes_cast, lanes_ask, apart_most, sum_is_sum_l}
use Rattle.m2v_kernel.proofs.lanes.apart_lanes.Goals as goal

pub overflow_cast-result-3 : goal.overflow_cast-result-3
overflow_cast-result-3 c =
    let x = c.args.x in let y = c.args.y in
    let fx = c.requires.one.small in let fy = c.requires.other.small in
    rw (lanes_apart 16 x y c.requires.x fx fy)
    (lanes_ask x y fx fy)

pub returns : goal.returns
returns c =
    let x = c.args.x in let y = c.args.y in
    let fx = c.requires.one.small in let fy = c.requires.other.small in
    rw (lanes_apart 16 x y c.requires.x fx fy, lanes_cast x y fx fy)
    (record { value = refl; len = length-zip2 apart x y (c.requires.x ∙ sym c.requires.y) ∙ c.requires.x; most = omega (arith, apart_most x y fx fy); sum = sum_is_sum_l (zip2 apart x y) })
