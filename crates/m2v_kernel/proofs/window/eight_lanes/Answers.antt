use Rattle.std.proofs.Common.{arith}
use Rattle.m2v_kernel.proofs.Windows.{sad_two}
use Rattle.m2v_kernel.proofs.window.eight_lanes.Goals as goal

pub returns-clause-sum : goal.returns-clause-sum
returns-clause-sum c =
    omega (
      arith,
      c.plus.ensures.sum,
      sad_two 4 c.args.block.now c.args.window.now c.args.from c.args.stride _ _ _ c.requires.block c.requires.within (omega arith)
          c.four_lanes-upper.ensures.sum c.four_lanes-lower.ensures.sum,
    )
