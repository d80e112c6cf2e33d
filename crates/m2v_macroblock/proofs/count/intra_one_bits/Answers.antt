use Rattle.std.proofs.Common.{refl, ap, ◌∙◌}
use Rattle.std.specs.Prelude.{nat_lt}
use Rattle.std.proofs.lemmas.Int.{to_z-of_z}
use mir.Syntax.{w32}
use Rattle.m2v_macro.specs.States.{after}
use Rattle.m2v_recon.specs.Steps.{levels_of}
use Rattle.m2v_macroblock.specs.Macroblocks.{macroblock_of, kind_for, predictor}
use Rattle.m2v_macroblock.proofs.Counted.{own_levels, one_counted, is_intra, is_luma, coded_by, intra_within, intra_dc, intra_predictor}
use Rattle.m2v_macroblock.proofs.count.intra_one_bits.Goals as goal

pub intra_bits-requires-clause-levels : goal.intra_bits-requires-clause-levels
intra_bits-requires-clause-levels c =
    let st = after c.args.context.now c.args._state.now c.args.x.now in
    intra_within c.args.context.now st c.args.x.now c.args.levels.now c.args.block c.requires.block c.requires.picture c.requires.intra c.requires.coded c.requires.blocks

pub intra_bits-requires-clause-dc : goal.intra_bits-requires-clause-dc
intra_bits-requires-clause-dc c =
    let st = after c.args.context.now c.args._state.now c.args.x.now in
    intra_dc c.args.context.now st c.args.x.now c.args.levels.now c.args.block c.requires.block c.requires.picture c.requires.intra c.requires.coded c.requires.blocks

pub intra_bits-requires-clause-predictor : goal.intra_bits-requires-clause-predictor
intra_bits-requires-clause-predictor c =
    let st = after c.args.context.now c.args._state.now c.args.x.now in
    let same = c.predictor.ensures ∙ ap (λ dc. predictor dc (levels_of c.args.levels.now) c.args.block) c.requires.dc in
    intra_predictor c.args.context.now st c.args.x.now c.args.levels.now c.args.block c.requires.block c.requires.picture c.requires.intra c.requires.coded c.requires.blocks
    c.predictor.result (record { sfits = c.predictor.type_inv }) same

pub returns-clause-value : goal.returns-clause-value
returns-clause-value c =
    let ctx = c.args.context.now in
    let m = c.args.x.now in
    let st = after ctx c.args._state.now m in
    let kind = kind_for ctx m.kind.intra (nat_lt c.args.block 4) st.quantiser in
    let same = to_z-of_z w32 c.predictor.result (record { sfits = c.predictor.type_inv }) ∙ c.predictor.ensures ∙ ap (λ dc. predictor dc (levels_of c.args.levels.now) c.args.block) c.requires.dc in
    let n = c.intra_bits.ensures.value kind (is_intra ctx m.kind.intra _ _ _ c.requires.intra) (is_luma ctx m.kind.intra _ _) in
    one_counted ctx st (macroblock_of m c.args.levels.now) c.args.block _ kind _ _ n (coded_by m.pattern c.args.block c.requires.coded c.requires.block) refl same (own_levels c.args.levels.now c.args.block)
