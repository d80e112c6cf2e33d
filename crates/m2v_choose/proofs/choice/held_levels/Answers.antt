use Rattle.std.proofs.Common.{[], ◌∷◌, ◌∙◌}
use Rattle.m2v_choose.proofs.Holding.{levels_held}
use Rattle.m2v_choose.proofs.choice.held_levels.Goals as goal

pub returns : goal.returns
returns c = record {
  value = λ r.
      let luma = c.dc_block-luma.ensures in
      (λ i. luma i ∷ luma i ∷ luma i ∷ luma i ∷ c.dc_block-blue.ensures i ∷ c.dc_block-red.ensures i ∷ []) ∙ levels_held c.args.task.now r c.requires.task;
}
