use Rattle.std.proofs.Common.{◌≡◌, ◌+◌, ◌∙◌, ap, get_or, sym, below_more, pos, rules, w32, to_z}
use Rattle.std.proofs.lemmas.Int.{to_z-of_z}
use mir.Val.{SFits}
use Rattle.m2v_idct.proofs.InPlace.{joined_zero}
use Rattle.m2v_idct.proofs.inverse_dct.are_zero.Goals as goal

pub loop-j-preserved : goal.loop-j-preserved
loop-j-preserved c none =
    let b = c.args.block.now in
    let j = c.loop-j.j in
    let one : SFits w32 (get_or b (1 + j) (pos 0)) = search rules in
    let other : SFits w32 (get_or b (56 + j) (pos 0)) = search rules in
    let first = simp to_z-of_z at c.cast_unsigned-first.ensures in
    let second = simp to_z-of_z at c.cast_unsigned-last.ensures in
    let both = joined_zero c.loop-j.bits _ none in
    let two = joined_zero c.cast_unsigned-first.result c.cast_unsigned-last.result both.1 in
    below_more (λ i. (get_or b (1 + i) (pos 0) ≡ pos 0) × (get_or b (56 + i) (pos 0) ≡ pos 0)) j (c.loop-j.invariant both.0)
    (sym (to_z-of_z w32 _ one) ∙ ap (to_z w32) (sym first ∙ two.0), sym (to_z-of_z w32 _ other) ∙ ap (to_z w32) (sym second ∙ two.1))
