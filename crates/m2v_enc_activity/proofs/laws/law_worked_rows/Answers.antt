use Rattle.std.proofs.Common.{refl}
use Rattle.m2v_pred.specs.m2v_plane.Samples.{plane_by}
use Rattle.m2v_enc_activity.specs.Activity.{activity}
use Rattle.m2v_enc_activity.proofs.laws.law_worked_rows.Goals as goal

pub returns : goal.returns
unfolding activity plane_by
returns c = record { activities = refl }
