use Rattle.std.proofs.Common.{arith}
use Rattle.m2v_kernel.proofs.Rows.{quarters_four}
use Rattle.m2v_kernel.proofs.between.four_from_quarters.Goals as goal

pub returns-clause-sum : goal.returns-clause-sum
returns-clause-sum c =
    omega (
      arith,
      c.plus.ensures.sum,
      c.plus-2.ensures.sum,
      c.plus-3.ensures.sum,
      quarters_four c.args.block.now c.args.window.now c.args.from c.args.stride _ _ _ _ c.requires.block c.requires.within
          c.line_from_quarters-first.ensures.sum c.line_from_quarters-second.ensures.sum
          c.line_from_quarters-third.ensures.sum c.line_from_quarters-fourth.ensures.sum,
    )
