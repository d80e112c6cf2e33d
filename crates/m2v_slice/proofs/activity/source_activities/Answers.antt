use Rattle.std.proofs.Common.{◌≤◌, List, length, sym, subst}
use Rattle.std.specs.Prelude.{All}
use Rattle.m2v_plane.specs.declared.dims.Dims.{Dims}
use Rattle.m2v_plane.specs.Samples.{Samples}
use Rattle.m2v_order.specs.declared.jobs.PictureJob.{PictureJob}
use Rattle.m2v_order.specs.Whole.{handed}
use Rattle.m2v_enc_activity.specs.Activity.{IsPictureOf, rows_in}
use Rattle.m2v_slice.proofs.Groups.{looked_at}
use Rattle.m2v_slice.proofs.activity.source_activities.Goals as goal

pub activities-requires-clause-pictures : goal.activities-requires-clause-pictures
activities-requires-clause-pictures c =
    let x = (looked_at c.args.settings.now (handed c.args.group.now) c.settings.ensures.passes c.requires.group).0 in
    subst (λ (js : List PictureJob). All (IsPictureOf (length c.deref.result.now)) js) (sym c.deref-in-Even.ensures.value)
    (subst (λ (fs : List Samples). All (IsPictureOf (length fs)) c.args.group.now.pictures.items) (sym c.deref.ensures.value) x)

pub activities-requires-clause-rows : goal.activities-requires-clause-rows
activities-requires-clause-rows c =
    let x = (looked_at c.args.settings.now (handed c.args.group.now) c.settings.ensures.passes c.requires.group).1 in
    subst (λ (js : List PictureJob). All (λ (j : PictureJob). 1 ≤ rows_in c.dims.result j.structure) js) (sym c.deref-in-Even.ensures.value)
    (subst (λ (d : Dims). All (λ (j : PictureJob). 1 ≤ rows_in d j.structure) c.args.group.now.pictures.items) (sym c.dims.ensures.value) x)
