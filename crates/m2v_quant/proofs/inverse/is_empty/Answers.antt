use Rattle.std.proofs.Common.{◌≡◌, ◌+◌, ◌∙◌, ap, get_or, sym, below_more, pos, rules, w32, to_z}
use Rattle.std.proofs.lemmas.Int.{to_z-of_z}
use mir.Val.{SFits}
use Rattle.m2v_quant.proofs.Scanned.{joined_zero}
use Rattle.m2v_quant.proofs.inverse.is_empty.Goals as goal

pub loop-j-preserved : goal.loop-j-preserved
loop-j-preserved c none =
    let levels = c.args.levels.now.at in
    let z = get_or levels (c.args.from + c.loop-j.j) (pos 0) in
    let fits : SFits w32 z = search rules in
    let same = simp to_z-of_z at c.cast_unsigned-bits.ensures in
    let both = joined_zero c.loop-j.bits c.cast_unsigned-bits.result none in
    below_more (λ k. get_or levels (c.args.from + k) (pos 0) ≡ pos 0) c.loop-j.j (c.loop-j.invariant both.0) (sym (to_z-of_z w32 z fits) ∙ ap (to_z w32) (sym same ∙ both.1))
