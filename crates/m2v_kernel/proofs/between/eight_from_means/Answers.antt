use Rattle.std.proofs.Common.{arith}
use Rattle.m2v_kernel.proofs.Rows.{means_two}
use Rattle.m2v_kernel.proofs.between.eight_from_means.Goals as goal

pub returns-clause-sum : goal.returns-clause-sum
returns-clause-sum c =
    omega (
      arith,
      c.plus.ensures.sum,
      means_two 4 c.args.block.now c.args.window.now c.args.from c.args.behind c.args.stride _ _ _ c.requires.block c.requires.within (omega arith)
          c.four_from_means-upper.ensures.sum c.four_from_means-lower.ensures.sum,
    )
