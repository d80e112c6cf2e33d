use Rattle.std.proofs.Common.{take, drop, arith, ap, ◌∙◌}
use Rattle.m2v_kernel.specs.Sums.{sad}
use Rattle.m2v_kernel.proofs.Windows.{sad_four}
use Rattle.m2v_kernel.proofs.window.four_lanes.Goals as goal

pub returns-clause-sum : goal.returns-clause-sum
returns-clause-sum c =
    let b = c.args.block.now in
    omega (
      arith,
      c.plus.ensures.sum,
      c.plus-2.ensures.sum,
      c.plus-3.ensures.sum,
      sad_four b c.args.window.now c.args.from c.args.stride _ _ _ _ c.requires.block c.requires.within
          (c.far_lanes-first.ensures.sum ∙ ap (sad (take 16 b)) c.line_from.ensures.value)
          (c.far_lanes-second.ensures.sum ∙ ap (sad (take 16 (drop 16 b))) c.line_from-2.ensures.value)
          (c.far_lanes-third.ensures.sum ∙ ap (sad (take 16 (drop 32 b))) c.line_from-3.ensures.value)
          (c.far_lanes-fourth.ensures.sum ∙ ap (sad (take 16 (drop 48 b))) c.line_from-4.ensures.value),
    )
