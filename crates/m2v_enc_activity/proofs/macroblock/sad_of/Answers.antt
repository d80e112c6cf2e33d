use Rattle.std.proofs.Common.{arith}
use Rattle.m2v_enc_activity.proofs.Sums.{sad_most}
use Rattle.m2v_enc_activity.proofs.macroblock.sad_of.Goals as goal

pub returns-clause-most : goal.returns-clause-most
returns-clause-most c =
    omega (arith, sad_most c.args.luma.now c.args.other.now (λ i. (c.type_inv.luma i).fits) (λ i. (c.type_inv.other i).fits), c.sad16.ensures.value, c.requires.whole)
