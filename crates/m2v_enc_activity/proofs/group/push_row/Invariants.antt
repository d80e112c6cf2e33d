use Rattle.std.proofs.Common.{◌≡◌, ◌++◌, map}
use Rattle.std.specs.Prelude.{All}
use Rattle.std.specs.List.{range_with_len}
use Rattle.m2v_enc_activity.specs.Activity.{activity_at, IsActivity}
use Rattle.m2v_enc_activity.proofs.group.push_row.Given as goal

abbrev pub invariant-loop-column : goal.invariant-loop-column
invariant-loop-column l = record {
  value : l.out.items ≡ l.fn.out.items ++ map (activity_at l.frames l.look l.row) (range_with_len 0 l.column);
  range : All IsActivity l.fn.out.items → All IsActivity l.out.items;
}
