use Rattle.std.proofs.Common.{◌≡◌, map}
use Rattle.std.specs.Prelude.{All, sum}
use Rattle.std.specs.List.{range_with_len, flat_map}
use Rattle.m2v_enc_activity.specs.Activity.{picture_activities, look_of, IsActivity, IsGroupActivity}
use Rattle.m2v_enc_activity.proofs.group.activities.Given as goal

abbrev pub invariant-loop-p : goal.invariant-loop-p
invariant-loop-p l = record {
  macroblocks : l.all.macroblocks.items ≡ flat_map (λ p. picture_activities l.dims l.frames (look_of l.pictures p)) (range_with_len 0 l.p);
  pictures : l.all.pictures.items ≡ map (λ p. sum (picture_activities l.dims l.frames (look_of l.pictures p))) (range_with_len 0 l.p);
  range : All IsActivity l.all.macroblocks.items;
  sums : All IsGroupActivity l.all.pictures.items;
}
