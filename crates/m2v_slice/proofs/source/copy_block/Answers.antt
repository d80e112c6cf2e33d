use Rattle.std.proofs.Common.{◌+◌, ◌*◌, ◌++◌, ◌∙◌, ap}
use Rattle.m2v_plane.specs.declared.planes.Lines.{Lines}
use Rattle.m2v_plane.specs.Sizes.{side}
use Rattle.m2v_plane.specs.Samples.{sample_in}
use Rattle.m2v_pred.specs.Predicted.{block_by}
use Rattle.m2v_slice.specs.Slices.{source_block}
use Rattle.m2v_slice.proofs.source.copy_block.Goals as goal

pub returns : goal.returns
unfolding source_block block_by
returns c = record {
  value = (λ i. c.copy_plane.ensures.value i ++ (c.copy_plane-2.ensures.value i ++ c.copy_plane-3.ensures.value i))
      ∙ ap (λ (lines : Lines). block_by (λ plane line x. sample_in c.args.source.now plane lines (side plane * c.args.row + line) (side plane * c.args.column + x)))
      c.own_lines-lines.ensures.value;
}
