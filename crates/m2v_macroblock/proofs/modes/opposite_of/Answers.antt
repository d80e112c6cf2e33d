use Rattle.std.proofs.Common.{rules, refl, [], pos, get_or}
use Rattle.std.proofs.lemmas.Int.{to_z-of_z}
use mir.Syntax.{w32}
use mir.Val.{SFits}
use Rattle.m2v_macroblock.proofs.DualLaws.{opposite_passed}
use Rattle.m2v_macroblock.proofs.modes.opposite_of.Goals as goal

pub returns : goal.returns
returns c =
    let m = c.args.m.now in
    let zero : SFits w32 (pos 0) = search rules in
    let a : SFits w32 c.dual-across.result = search rules in
    let b : SFits w32 c.dual-down.result = search rules in
    let x : SFits w32 (get_or (get_or (get_or m.vectors 0 []) 0 []) 0 (pos 0)) = search rules in
    let y : SFits w32 (get_or (get_or (get_or m.vectors 0 []) 0 []) 1 (pos 0)) = search rules in
    let d : SFits w32 (get_or m.dmvector 0 (pos 0)) = search rules in
    let e : SFits w32 (get_or m.dmvector 1 (pos 0)) = search rules in
    let p = opposite_passed _ _ _ _ c.dual-across.result x d c.ranges.factor zero c.requires.dual.dm_across c.dual-across.ensures in
    let q = opposite_passed _ _ _ _ c.dual-down.result y e c.ranges.factor c.ranges.correction c.requires.dual.dm_down c.dual-down.ensures in
    rw (to_z-of_z w32 c.dual-across.result a, to_z-of_z w32 c.dual-down.result b, p, q) refl
