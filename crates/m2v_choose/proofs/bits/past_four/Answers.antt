use Rattle.std.proofs.Common.{ℕ, Bool, cond, ap, refl, arith}
use Rattle.std.specs.Prelude.{nat_lt}
use Rattle.m2v_macro.specs.States.{after}
use Rattle.m2v_recon.specs.Steps.{levels_of}
use Rattle.m2v_macroblock.specs.Macroblocks.{macroblock_of, kind_for, predictor}
use Rattle.m2v_macroblock.proofs.Counted.{own_levels, one_counted, is_intra}
use Rattle.m2v_choose.proofs.Cheapest.{one_least}
use Rattle.m2v_choose.proofs.bits.past_four.Goals as goal

pub further-requires : goal.further-requires
further-requires c =
    let ctx = c.args._task.now.context.now in
    let m = c.args.syntax.now in
    let st = after ctx c.args._task.now.first m in
    let ls = levels_of c.args.levels.now in
    let b = c.args.block in
    let kind = kind_for ctx m.kind.intra (nat_lt b 4) st.quantiser in
    let p = predictor st.dc ls b in
    let coded = c.requires.coded in
    let on = c.requires.one in
    let n = c.other_bits.ensures.value kind (is_intra ctx m.kind.intra _ _ _ coded.other) ctx.extension.intra_vlc_format p in
    omega (
      arith,
      one_counted ctx st (macroblock_of m c.args.levels.now) b _ kind p _ n on refl refl (own_levels c.args.levels.now b),
      one_least ctx st m ls coded.other coded.pattern coded.long b c.requires.block,
      ap {B = ℕ} (λ (z : Bool). cond z 4 0) on,
    )

pub returns-clause-value : goal.returns-clause-value
returns-clause-value c =
    let ctx = c.args._task.now.context.now in
    let m = c.args.syntax.now in
    let st = after ctx c.args._task.now.first m in
    let b = c.args.block in
    let kind = kind_for ctx m.kind.intra (nat_lt b 4) st.quantiser in
    let p = predictor st.dc (levels_of c.args.levels.now) b in
    let n = c.other_bits.ensures.value kind (is_intra ctx m.kind.intra _ _ _ c.requires.coded.other) ctx.extension.intra_vlc_format p in
    omega (arith, one_counted ctx st (macroblock_of m c.args.levels.now) b _ kind p _ n c.requires.one refl refl (own_levels c.args.levels.now b), c.further.ensures)
