use Rattle.std.proofs.Common.{◌≡◌, ◌++◌, length, map, arith, refl, rules}
use Rattle.m2v_pred.specs.Predicted.{block_by}
use Rattle.m2v_recon.specs.Macro.{is_coded, kind_at}
use Rattle.m2v_recon.proofs.Samples.{luma_is, blue_is, red_is}
use Rattle.m2v_recon.proofs.macroblock.rebuild_block.Goals as goal

pub returns : goal.returns
unfolding block_by
returns g c =
    let pred = c.args.block.now.at in
    let lists = map g.L.BlockLevels.list c.args.levels.now in
    let kinds = c.args.kinds.now in
    let pattern = c.args.pattern in
    let front = c.split_at_mut-luma.ensures in
    let back = c.split_at_mut-blue.ensures in
    let len : length pred ≡ 384 = search rules in
    let luma = rw front.front at c.rebuild_planes.ensures.luma.sample in
    let blue = rw (back.front, front.back) at c.rebuild_planes.ensures.blue in
    let red = rw (back.back, front.back) at c.rebuild_planes.ensures.red in
    record {
      value = λ i.
          luma_is pred lists pattern (kind_at kinds 0) (kind_at kinds 1) c.args.dct_field c.rebuild_planes.new.luma
          (omega (arith, c.rebuild_planes.auto.luma, front.front_len)) luma i
          ++ (blue_is pred lists kinds pattern (is_coded pattern 4) c.args.dct_field c.rebuild_planes.new.blue
          (omega (arith, c.rebuild_planes.auto.blue, back.front_len)) refl blue i
          ++ red_is pred lists kinds pattern (is_coded pattern 5) c.args.dct_field c.rebuild_planes.new.red
          (omega (arith, len, c.rebuild_planes.auto.red, back.back_len, front.back_len)) refl red i);
    }
