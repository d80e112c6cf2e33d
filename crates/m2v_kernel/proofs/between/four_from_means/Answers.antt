use Rattle.std.proofs.Common.{arith}
use Rattle.m2v_kernel.proofs.Rows.{means_four}
use Rattle.m2v_kernel.proofs.between.four_from_means.Goals as goal

pub returns-clause-sum : goal.returns-clause-sum
returns-clause-sum c =
    omega (
      arith,
      c.plus.ensures.sum,
      c.plus-2.ensures.sum,
      c.plus-3.ensures.sum,
      means_four c.args.block.now c.args.window.now c.args.from c.args.behind c.args.stride _ _ _ _ c.requires.block c.requires.within
          c.line_from_means-first.ensures.sum c.line_from_means-second.ensures.sum
          c.line_from_means-third.ensures.sum c.line_from_means-fourth.ensures.sum,
    )
