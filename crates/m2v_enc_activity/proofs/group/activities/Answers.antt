use Rattle.std.proofs.Common.{◌≡◌, ℕ, List, [], ◌∷◌, ◌++◌, ◌-◌, ◌*◌, ◌≤◌, length, take, drop, arith, refl, ap, sym, ◌∙◌, subst}
use Rattle.std.specs.Prelude.{All, sum}
use Rattle.std.proofs.lemmas.List.Elements.{All-nil, All-push, All-take, All-drop}
use Rattle.m2v_pred.specs.m2v_plane.declared.dims.Dims.{Dims}
use Rattle.m2v_pred.specs.m2v_plane.Sizes.{IsSize}
use Rattle.m2v_pred.specs.m2v_plane.Samples.{Samples}
use Rattle.m2v_enc_activity.specs.Activity.{Look, activities, group_activities, picture_activities, rows_in, no_job, look_of, IsActivity, IsGroupActivity}
use Rattle.m2v_enc_activity.proofs.Lists.{map_more, flat_more, behind_is}
use Rattle.m2v_enc_activity.proofs.Places.{length-picture_activities, macroblocks_most, macroblocks_some}
use Rattle.m2v_enc_activity.proofs.group.activities.Goals as goal

part_most : (d : Dims) → IsSize d → (frames : List Samples) (look : Look) (part : List ℕ) → part ≡ picture_activities d frames look → length part ≤ 8640
part_most d size frames look part is =
    omega (arith, ap length is, length-picture_activities d frames look, macroblocks_most d size look.structure)

sum_range : (d : Dims) → IsSize d → (frames : List Samples) (look : Look) → 1 ≤ rows_in d look.structure → (part : List ℕ) → part ≡ picture_activities d frames look
    → (n : ℕ) → n ≤ 65536 * length part → 256 * length part ≤ n → IsGroupActivity n
sum_range d size frames look some part is n most least =
    let len : length part ≡ rows_in d look.structure * d.mb_width = ap length is ∙ length-picture_activities d frames look in
    record {
      some = omega (arith, len, macroblocks_some d size (rows_in d look.structure) some, least);
      most = omega (arith, len, macroblocks_most d size look.structure, most);
    }

pub loop-p-init : goal.loop-p-init
loop-p-init c = record {
  macroblocks = c.new.ensures.items;
  pictures = c.new-2.ensures.items;
  range = rw c.new.ensures.items (All-nil IsActivity);
  sums = rw c.new-2.ensures.items (All-nil IsGroupActivity);
}

pub sum_of-requires : goal.sum_of-requires
sum_of-requires c =
    let here : c.len-from.result ≡ length c.loop-p.all.macroblocks.items = omega (arith, c.len-from.ensures) in
    let slice : List ℕ = take (length c.deref.result.now - c.len-from.result) (drop c.len-from.result c.deref.result.now) in
    let is : slice ≡ picture_activities c.args.dims c.args.frames.now c.look_at-look.result =
    behind_is c.deref.result.now c.loop-p.all.macroblocks.items (picture_activities c.args.dims c.args.frames.now c.look_at-look.result) (length c.deref.result.now) c.len-from.result
    (c.deref.ensures.value ∙ c.in_ok-push_picture.ensures.ok) refl here in
    let all : All IsActivity c.push_picture.new.out.items = c.in_ok-push_picture.ensures.range c.loop-p.invariant.range in
    record {
      range = All-take IsActivity (length c.deref.result.now - c.len-from.result) (drop c.len-from.result c.deref.result.now)
          (All-drop IsActivity c.len-from.result c.deref.result.now (subst (All IsActivity) (sym c.deref.ensures.value) all));
      few = part_most c.args.dims c.requires.size c.args.frames.now c.look_at-look.result slice is;
    }

pub loop-p-preserved : goal.loop-p-preserved
loop-p-preserved c =
    let d = c.args.dims in
    let frames = c.args.frames.now in
    let pictures = c.args.pictures.now in
    let k = c.loop-p.p in
    let g : ℕ → List ℕ = λ p. picture_activities d frames (look_of pictures p) in
    let looked : c.look_at-look.result ≡ look_of pictures k = c.look_at-look.ensures.value in
    let all = c.deref.result.now in
    let from = c.len-from.result in
    let slice : List ℕ = take (length all - from) (drop from all) in
    let here : from ≡ length c.loop-p.all.macroblocks.items = omega (arith, c.len-from.ensures) in
    let is : slice ≡ g k =
    behind_is all c.loop-p.all.macroblocks.items (picture_activities d frames c.look_at-look.result) (length all) from (c.deref.ensures.value ∙ c.in_ok-push_picture.ensures.ok) refl here
    ∙ ap (picture_activities d frames) looked in
    record {
      macroblocks = c.in_ok-push_picture.ensures.ok
          ∙ ap (λ (xs : List ℕ). c.loop-p.all.macroblocks.items ++ xs) (ap (picture_activities d frames) looked)
          ∙ ap (λ (xs : List ℕ). xs ++ g k) c.loop-p.invariant.macroblocks ∙ sym (flat_more g k);
      pictures = c.in_ok-push.ensures.items
          ∙ ap (λ (n : ℕ). c.loop-p.all.pictures.items ++ n ∷ []) (c.sum_of.ensures.value ∙ ap sum is)
          ∙ ap (λ (xs : List ℕ). xs ++ sum (g k) ∷ []) c.loop-p.invariant.pictures ∙ sym (map_more (λ p. sum (g p)) k);
      range = c.in_ok-push_picture.ensures.range c.loop-p.invariant.range;
      sums = subst (All IsGroupActivity) (sym c.in_ok-push.ensures.items)
          (All-push IsGroupActivity c.loop-p.all.pictures.items c.sum_of.result c.loop-p.invariant.sums
          (sum_range d c.requires.size frames (look_of pictures k) (c.requires.rows k no_job c.loop-p-test.true) slice is c.sum_of.result c.sum_of.ensures.most c.sum_of.ensures.some));
    }

pub returns-clause-macroblocks : goal.returns-clause-macroblocks
unfolding activities
returns-clause-macroblocks c =
    let end : c.loop-p.p ≡ length c.args.pictures.now = omega arith in
    rw end at c.loop-p.invariant.macroblocks

pub returns-clause-pictures : goal.returns-clause-pictures
unfolding group_activities
returns-clause-pictures c =
    let end : c.loop-p.p ≡ length c.args.pictures.now = omega arith in
    rw end at c.loop-p.invariant.pictures
