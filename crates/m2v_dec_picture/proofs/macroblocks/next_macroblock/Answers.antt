use Rattle.std.proofs.Common.{◌≡◌, ◌∙◌, List, true, sym, ap, subst}
use Rattle.m2v_quant.specs.declared.kind.Levels.{Levels}
use Rattle.m2v_macroblock.proofs.DcLaws.{dc_left}
use Rattle.m2v_dec_picture.specs.declared.located.Located.{Located}
use Rattle.m2v_dec_picture.specs.Conditions.{AreDc, last_dc}
use Rattle.m2v_dec_picture.proofs.RowLaws.{with_dc, goes_on}
use Rattle.m2v_dec_picture.proofs.macroblocks.next_macroblock.Goals as goal

pub paint_own-requires-clause-takes : goal.paint_own-requires-clause-takes
paint_own-requires-clause-takes g c = c.paint_gap.ensures.takes _ (c.requires.takes c.macroblock.new.scratch.found.column c.in_ok-macroblock.ensures.column.below)

pub returns-clause-state : goal.returns-clause-state
returns-clause-state g c =
    let ctx = c.args.basis.now.setup.now.context in
    let mid = c.macroblock.new.state in
    let told = c.in_ok-macroblock.ensures in
    let kept = c.paint_own.ensures.levels in
    let intra = c.paint_own.new.scratch.found.syntax.kind.intra in
    let same = ap (λ (x : Located). x.syntax.kind.intra) c.paint_own.ensures.found in
    let dc : (intra ≡ true) → AreDc ctx.extension.dc_precision (last_dc c.paint_own.new.scratch.levels) = λ e. subst (λ (ls : List Levels). AreDc ctx.extension.dc_precision (last_dc ls)) (sym kept) (told.dc (sym same ∙ e)) in
    let left = dc_left ctx intra c.paint_own.new.scratch.levels mid.dc told.inside.dc dc in
    with_dc ctx c.args.row mid c.dc_after-state.result told.inside (subst (AreDc ctx.extension.dc_precision) (sym c.dc_after-state.ensures) left)

pub returns-clause-goes_on : goal.returns-clause-goes_on
returns-clause-goes_on g c =
    let told = c.in_ok-macroblock.ensures in
    let on = goes_on c.args.basis.now.setup.now.context c.args.state.now c.macroblock.new.scratch.found.syntax c.macroblock.new.state told.state told.can.fits.step in
    record { further = on.further; first = on.first; next = on.next; begins = on.begins }

pub returns-clause-takes : goal.returns-clause-takes
returns-clause-takes g c = λ p t. c.paint_own.ensures.takes p (c.paint_gap.ensures.takes p t)
