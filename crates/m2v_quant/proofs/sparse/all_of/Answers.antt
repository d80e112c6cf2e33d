use Rattle.std.proofs.Common.{◌≡◌, ◌∙◌, refl, sym, set, rules, w32}
use Rattle.std.proofs.lemmas.Int.{to_z-of_z}
use mir.Syntax.{w16}
use mir.Val.{SFits, to_z, of_z}
use Rattle.m2v_quant.specs.Sparse.{kept_at, spread}
use Rattle.m2v_quant.proofs.Kept.{level_short, spread_more}
use Rattle.m2v_quant.proofs.sparse.all_of.Goals as goal

pub loop-i-init : goal.loop-i-init
unfolding spread
loop-i-init c = refl

pub loop-i-preserved : goal.loop-i-preserved
loop-i-preserved c =
    let later = c.args.later.now in
    let i = c.loop-i.i in
    let x = kept_at later i in
    let kept = c.requires.kept.each i c.loop-i-test.true in
    let f : SFits w32 c.from.result = search rules in
    let level : to_z w32 (of_z w32 c.from.result) ≡ x.level = to_z-of_z w32 c.from.result f ∙ c.from.ensures ∙ to_z-of_z w16 x.level (level_short x.level kept.level) in
    (λ j. set (c.loop-i.invariant j) x.position (level j)) ∙ sym (spread_more _ later i)
