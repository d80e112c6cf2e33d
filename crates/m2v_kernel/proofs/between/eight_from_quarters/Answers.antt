use Rattle.std.proofs.Common.{arith}
use Rattle.m2v_kernel.proofs.Rows.{quarters_two}
use Rattle.m2v_kernel.proofs.between.eight_from_quarters.Goals as goal

pub returns-clause-sum : goal.returns-clause-sum
returns-clause-sum c =
    omega (
      arith,
      c.plus.ensures.sum,
      quarters_two 4 c.args.block.now c.args.window.now c.args.from c.args.stride _ _ _ c.requires.block (omega (arith, c.requires.within)) (omega arith)
          c.four_from_quarters-upper.ensures.sum c.four_from_quarters-lower.ensures.sum,
    )
