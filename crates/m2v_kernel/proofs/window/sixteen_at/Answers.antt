use Rattle.std.proofs.Common.{arith}
use Rattle.m2v_kernel.proofs.Windows.{sad_two}
use Rattle.m2v_kernel.proofs.window.sixteen_at.Goals as goal

pub returns : goal.returns
returns c =
    omega (
      arith,
      c.total.ensures,
      c.plus.ensures.sum,
      sad_two 8 c.args.block.now c.args.window.now c.args.from c.args.stride _ _ _ c.requires.block c.requires.within (omega arith)
          c.eight_lanes-upper.ensures.sum c.eight_lanes-lower.ensures.sum,
    )
