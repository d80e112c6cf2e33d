use Rattle.std.proofs.Common.{◌+◌, ◌*◌, ◌∙◌, ap, arith, map, List, ℤ}
use Rattle.m2v_pred.specs.m2v_plane.declared.planes.Plane.TheVariants.{Y}
use Rattle.m2v_recon.specs.Macro.{residual, block_of, is_alone, kind_at}
use Rattle.m2v_recon.specs.Steps.{luma_place, rebuilt}
use Rattle.m2v_recon.proofs.Luma.{own_is, luma_more, luma_none, luma_all, spot, plus}
use Rattle.m2v_recon.proofs.differences.add_luma.Goals as goal

pub loop-block-init : goal.loop-block-init
loop-block-init g c = λ r x _ _. luma_none c.args.dct_field c.args.samples.now
    (λ k y. plus (is_alone c.args.pattern (kind_at c.args.kinds.now 0) (kind_at c.args.kinds.now 1) (block_of c.args.dct_field Y k y)) (spot c.args.samples.now (16 * k + y)) (residual (map g.L.BlockLevels.list c.args.levels.now) c.args.pattern (kind_at c.args.kinds.now 0) (kind_at c.args.kinds.now 1) (block_of c.args.dct_field Y k y))) r x

pub loop-block-preserved : goal.loop-block-preserved
loop-block-preserved g c =
    let own = own_is g.L.BlockLevels.list c.args.levels.now c.loop-block.block _ (omega arith) in
    luma_more (map g.L.BlockLevels.list c.args.levels.now) c.args.kinds.now c.args.pattern c.loop-block.block c.is_coded-coded.result c.args.dct_field c.args.samples.now c.loop-block.samples c.add_coded.new.samples
    (omega arith) c.is_coded-coded.ensures.value c.loop-block.invariant
    (λ k j lk lj. c.add_coded.ensures.lines k j lk lj
    ∙ ap (λ (z : List ℤ). rebuilt c.is_coded-coded.result z (kind_at c.args.kinds.now 0) (8 * k + j) (spot c.loop-block.samples (luma_place c.args.dct_field c.loop-block.block k + j))) own)
    c.add_coded.ensures.rest

pub returns : goal.returns
returns g c = record {
  value = record {
    sample = λ l x lt small.
        luma_all c.args.dct_field c.loop-block.samples c.args.samples.now
        (λ r y. plus (is_alone c.args.pattern (kind_at c.args.kinds.now 0) (kind_at c.args.kinds.now 1) (block_of c.args.dct_field Y r y)) (spot c.args.samples.now (16 * r + y)) (residual (map g.L.BlockLevels.list c.args.levels.now) c.args.pattern (kind_at c.args.kinds.now 0) (kind_at c.args.kinds.now 1) (block_of c.args.dct_field Y r y)))
        c.loop-block.block l x lt small (omega arith) (c.loop-block.invariant l x lt small);
  };
}
