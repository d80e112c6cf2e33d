use Rattle.std.proofs.Common.{arith, ◌∙◌, ◌*◌, ◌≤◌, length, replicate}
use Rattle.m2v_kernel.specs.Sums.{sad}
use Rattle.m2v_enc_activity.proofs.Sums.{sad_zeros, sad_most, same_small}
use Rattle.m2v_enc_activity.proofs.macroblock.sum_of.Goals as goal

pub returns-clause-value : goal.returns-clause-value
returns-clause-value c = c.sad16.ensures.value ∙ sad_zeros 256 c.args.luma.now c.requires.whole

pub returns-clause-most : goal.returns-clause-most
returns-clause-most c =
    let most : sad c.args.luma.now (replicate 256 0) ≤ 255 * length c.args.luma.now =
    sad_most c.args.luma.now (replicate 256 0) (λ i. (c.type_inv.luma i).fits) (λ i. same_small 256 0 i (omega arith)) in
    omega (arith, most, c.sad16.ensures.value, c.requires.whole)
