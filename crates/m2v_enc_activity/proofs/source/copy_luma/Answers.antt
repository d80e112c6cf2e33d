use Rattle.std.proofs.Common.{◌+◌, ◌*◌, ◌∙◌, ap}
use Rattle.m2v_pred.specs.m2v_plane.declared.planes.Plane.TheVariants.{Y}
use Rattle.m2v_pred.specs.m2v_plane.declared.planes.Lines.{Lines}
use Rattle.m2v_pred.specs.m2v_plane.Samples.{plane_by, sample_in}
use Rattle.m2v_enc_activity.specs.Activity.{luma_at}
use Rattle.m2v_enc_activity.proofs.source.copy_luma.Goals as goal

pub returns : goal.returns
unfolding luma_at
returns c = record {
  value = c.copy_plane.ensures.value
      ∙ ap (λ (lines : Lines). plane_by 16 16 (λ line x. sample_in c.args.source.now Y lines (16 * c.args.row + line) (16 * c.args.column + x)))
      c.own_lines.ensures.value;
}
