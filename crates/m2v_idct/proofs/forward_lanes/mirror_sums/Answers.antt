use Rattle.std.proofs.Common.{List, arith, ap, get_or, ◌∙◌, ◌-◌, ◌+ℤ◌, ℤ, pos}
use lib.Lanes.{zip2}
use Rattle.m2v_idct.specs.ForwardLanes.{eight}
use Rattle.m2v_idct.proofs.AllLanes.{eight_places, mirror_is, mirror_small}
use Rattle.m2v_idct.proofs.FourLanes.{asked, sum_bound, zipped}
use Rattle.m2v_idct.proofs.forward_lanes.mirror_sums.Goals as goal

pub overflow_add-result : goal.overflow_add-result
overflow_add-result c =
    let x = c.args.x in
    rw (mirror_is x c.requires.len c.requires.within)
    (asked 256 256 512 (λ (a b : ℤ). a +ℤ b) (sum_bound 256 256 512 (omega arith)) (omega arith) (omega arith) (omega arith)
    x (eight (λ k. get_or x (7 - k) (pos 0))) c.requires.within (mirror_small x c.requires.len c.requires.within))

pub returns : goal.returns
returns c =
    let x = c.args.x in
    let y = eight (λ k. get_or x (7 - k) (pos 0)) in
    rw (mirror_is x c.requires.len c.requires.within)
    (zipped 256 256 512 (λ (a b : ℤ). a +ℤ b) (sum_bound 256 256 512 (omega arith)) (omega arith) (omega arith) (omega arith) x y c.requires.within (mirror_small x c.requires.len c.requires.within)
    ∙ ap (λ (xs : List ℤ). zip2 (λ (a b : ℤ). a +ℤ b) xs y) (eight_places (pos 0) x c.requires.len))
