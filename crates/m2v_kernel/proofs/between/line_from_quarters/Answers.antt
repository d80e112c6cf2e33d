use Rattle.std.proofs.Common.{◌∙◌, arith}
use Rattle.std.proofs.lemmas.List.{take_all}
use Rattle.std.specs.Simd.Lanes.{zip2}
use Rattle.m2v_kernel.specs.Sums.{sad, pair, quarter}
use Rattle.m2v_kernel.proofs.between.line_from_quarters.Goals as goal

pub returns-clause-sum : goal.returns-clause-sum
returns-clause-sum c =
    let own = c.sixteen-5.ensures.value ∙ take_all 16 c.args.own.now (omega (arith, c.requires.own)) in
    let quarters = c.quarter_lanes-quarters.ensures.value
    ∙ (λ i. zip2 quarter (zip2 pair (c.sixteen.ensures.value i) (c.sixteen-2.ensures.value i)) (zip2 pair (c.sixteen-3.ensures.value i) (c.sixteen-4.ensures.value i))) in
    c.apart_lanes.ensures.sum ∙ (λ i. sad (own i) (quarters i))
