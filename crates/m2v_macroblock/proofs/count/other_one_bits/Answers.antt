use Rattle.std.proofs.Common.{refl, sym}
use Rattle.std.specs.Prelude.{nat_lt}
use Rattle.m2v_macro.specs.States.{after}
use Rattle.m2v_macroblock.specs.Macroblocks.{macroblock_of, kind_for, predictor}
use Rattle.m2v_recon.specs.Steps.{levels_of}
use Rattle.m2v_macroblock.proofs.Counted.{own_levels, one_counted, one_none, is_intra, other_within}
use Rattle.m2v_macroblock.proofs.count.other_one_bits.Goals as goal

pub other_bits-requires : goal.other_bits-requires
other_bits-requires c = record { levels = other_within c.args._context.now c.args._state.now c.args.x.now c.args.levels.now c.args.block c.requires.block (sym c.if-is_coded.ensures.value) c.requires.blocks }

pub returns-then-is_coded-clause-value : goal.returns-then-is_coded-clause-value
returns-then-is_coded-clause-value c =
    let ctx = c.args._context.now in
    let m = c.args.x.now in
    let st = after ctx c.args._state.now m in
    let kind = kind_for ctx m.kind.intra (nat_lt c.args.block 4) st.quantiser in
    let p = predictor st.dc (levels_of c.args.levels.now) c.args.block in
    let n = c.other_bits.ensures.value kind (is_intra ctx m.kind.intra _ _ _ c.requires.other) ctx.extension.intra_vlc_format p in
    one_counted ctx st (macroblock_of m c.args.levels.now) c.args.block _ kind p _ n (sym c.if-is_coded.ensures.value) refl refl (own_levels c.args.levels.now c.args.block)

pub returns-clause-value : goal.returns-clause-value
returns-clause-value c =
    one_none c.args._context.now (after c.args._context.now c.args._state.now c.args.x.now) (macroblock_of c.args.x.now c.args.levels.now) c.args.block (sym c.if-is_coded.ensures.value)
