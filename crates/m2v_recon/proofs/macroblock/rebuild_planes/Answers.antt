use Rattle.std.proofs.Common.{◌∙◌, map, arith}
use Rattle.m2v_recon.specs.Macro.{is_coded, kind_at}
use Rattle.m2v_recon.specs.Steps.{own_list, rebuilt}
use Rattle.m2v_recon.proofs.Luma.{not_added, own_is, spot}
use Rattle.m2v_recon.proofs.Samples.{luma_untouched, off}
use Rattle.m2v_recon.proofs.macroblock.rebuild_planes.Goals as goal

pub returns-then-pattern-eq0-clause-luma : goal.returns-then-pattern-eq0-clause-luma
returns-then-pattern-eq0-clause-luma g c = record {
  sample = luma_untouched c.args.luma.now (map g.L.BlockLevels.list c.args.levels.now) c.args.pattern (kind_at c.args.kinds.now 0) (kind_at c.args.kinds.now 1) c.args.dct_field
      c.if-pattern-eq0.true (λ i. (c.type_inv.luma i).fits);
}

pub returns-then-pattern-eq0-clause-blue : goal.returns-then-pattern-eq0-clause-blue
returns-then-pattern-eq0-clause-blue g c i lt =
    not_added (is_coded c.args.pattern 4) (own_list (map g.L.BlockLevels.list c.args.levels.now) 4) (kind_at c.args.kinds.now 1) i _
    (off c.args.pattern 4 c.if-pattern-eq0.true (omega arith)) (c.type_inv.blue i).fits

pub returns-then-pattern-eq0-clause-red : goal.returns-then-pattern-eq0-clause-red
returns-then-pattern-eq0-clause-red g c i lt =
    not_added (is_coded c.args.pattern 5) (own_list (map g.L.BlockLevels.list c.args.levels.now) 5) (kind_at c.args.kinds.now 1) i _
    (off c.args.pattern 5 c.if-pattern-eq0.true (omega arith)) (c.type_inv.red i).fits

pub returns-clause-blue : goal.returns-clause-blue
returns-clause-blue g c i lt =
    let own = own_is g.L.BlockLevels.list c.args.levels.now 4 _ (omega arith) in
    c.add_chroma.ensures.value i lt
    ∙ (λ j. rebuilt (c.is_coded-coded.ensures.value j) (own j) (kind_at c.args.kinds.now 1) i (spot c.args.blue.now i))

pub returns-clause-red : goal.returns-clause-red
returns-clause-red g c i lt =
    let own = own_is g.L.BlockLevels.list c.args.levels.now 5 _ (omega arith) in
    c.add_chroma-2.ensures.value i lt
    ∙ (λ j. rebuilt (c.is_coded-coded-2.ensures.value j) (own j) (kind_at c.args.kinds.now 1) i (spot c.args.red.now i))
