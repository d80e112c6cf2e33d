use Rattle.std.proofs.Common.{◌≡◌, ◌++◌}
use Rattle.std.specs.Prelude.{All}
use Rattle.std.specs.List.{range_with_len, flat_map}
use Rattle.m2v_enc_activity.specs.Activity.{row_activities, IsActivity}
use Rattle.m2v_enc_activity.proofs.group.push_picture.Given as goal

abbrev pub invariant-loop-row : goal.invariant-loop-row
invariant-loop-row l = record {
  value : l.out.items ≡ l.fn.out.items ++ flat_map (row_activities l.dims l.frames l.look) (range_with_len 0 l.row);
  range : All IsActivity l.fn.out.items → All IsActivity l.out.items;
}
