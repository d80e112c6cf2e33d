use Rattle.std.proofs.Common.{◌∙◌, arith}
use Rattle.std.proofs.lemmas.List.{take_all}
use Rattle.std.specs.Simd.Lanes.{zip2}
use Rattle.m2v_kernel.specs.Sums.{sad, mean}
use Rattle.m2v_kernel.proofs.between.line_from_means.Goals as goal

pub returns-clause-sum : goal.returns-clause-sum
returns-clause-sum c =
    let own = c.sixteen-3.ensures.value ∙ take_all 16 c.args.own.now (omega (arith, c.requires.own)) in
    let means = c.mean_lanes-means.ensures.value ∙ (λ i. zip2 mean (c.sixteen.ensures.value i) (c.sixteen-2.ensures.value i)) in
    c.apart_lanes.ensures.sum ∙ (λ i. sad (own i) (means i))
