use Rattle.std.proofs.Common.{◌≡◌, [], ◌∷◌, map, arith}
use Rattle.std.specs.List.{range_with_len}
use Rattle.std.proofs.lemmas.List.Elements.{All-push}
use Rattle.m2v_enc_activity.specs.Activity.{activity_at, row_activities, IsActivity}
use Rattle.m2v_enc_activity.proofs.Lists.{map_more, behind_more}
use Rattle.m2v_enc_activity.proofs.group.push_row.Goals as goal

pub loop-column-preserved : goal.loop-column-preserved
loop-column-preserved c =
    let f = activity_at c.args.frames.now c.args.look.now c.args.row in
    let k = c.loop-column.column in
    record {
      value = behind_more c.args.out.now.items c.loop-column.out.items (f k ∷ []) (map f (range_with_len 0 k)) _ _ c.loop-column.invariant.value
          (rw (c.activity_at.ensures.value) at c.in_ok-push.ensures.items) (map_more f k);
      range = λ before. rw c.in_ok-push.ensures.items (All-push IsActivity c.loop-column.out.items c.activity_at.result (c.loop-column.invariant.range before) c.activity_at.ensures.range);
    }

pub returns-clause-ok : goal.returns-clause-ok
unfolding row_activities
returns-clause-ok c =
    let end : c.loop-column.column ≡ c.args.dims.mb_width = omega arith in
    rw end at c.loop-column.invariant.value
