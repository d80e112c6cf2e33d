use Rattle.std.proofs.Common.{◌≡◌, arith, ap}
use Rattle.std.specs.List.{range_with_len, flat_map}
use Rattle.m2v_enc_activity.specs.Activity.{Look, row_activities, picture_activities, rows_in}
use Rattle.m2v_enc_activity.proofs.Lists.{flat_more, behind_more}
use Rattle.m2v_enc_activity.proofs.group.push_picture.Goals as goal

pub loop-row-preserved : goal.loop-row-preserved
loop-row-preserved c =
    let f = row_activities c.args.dims c.args.frames.now c.args.look.now in
    let k = c.loop-row.row in
    record {
      value = behind_more c.args.out.now.items c.loop-row.out.items (f k) (flat_map f (range_with_len 0 k)) _ _ c.loop-row.invariant.value c.in_ok-push_row.ensures.ok (flat_more f k);
      range = λ before. c.in_ok-push_row.ensures.range (c.loop-row.invariant.range before);
    }

pub returns-clause-ok : goal.returns-clause-ok
unfolding picture_activities
returns-clause-ok c =
    let same : rows_in c.args.dims c.look.inside.structure ≡ rows_in c.args.dims c.args.look.now.structure =
    ap (λ (l : Look). rows_in c.args.dims l.structure) c.look.view_is in
    let end : c.loop-row.row ≡ rows_in c.args.dims c.args.look.now.structure = omega (arith, c.rows_in-row-end.ensures.value, same) in
    rw end at c.loop-row.invariant.value
