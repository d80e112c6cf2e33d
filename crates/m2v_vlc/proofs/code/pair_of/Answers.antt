use Rattle.std.proofs.Common.{◌≡◌, ◌∙◌, sym, ap, inl, inr}
use Rattle.std.specs.Prelude.{pos, negsuc}
use Rattle.std.proofs.lemmas.Int.{to_z-of_z}
use mir.Val.{to_z, of_z}
use mir.Syntax.{w16}
use Rattle.m2v_vlc.proofs.Firsts.{first_zero_plus, first_zero_minus, first_other}
use Rattle.m2v_vlc.proofs.code.pair_of.Goals as goal

pub returns-then-level-eq1-clause-spelled : goal.returns-then-level-eq1-clause-spelled
returns-then-level-eq1-clause-spelled c =
    let f = c.ranges.level in
    let one : c.args.level ≡ pos 1 = simp to_z-of_z at (ap (to_z w16) c.if-level-eq1.true) in
    rw (c.if-run-eq0.true, one) (sym first_zero_plus)

pub returns-then-level-eqminus1-clause-spelled : goal.returns-then-level-eqminus1-clause-spelled
returns-then-level-eqminus1-clause-spelled c =
    let f = c.ranges.level in
    let one : c.args.level ≡ negsuc 0 = simp to_z-of_z at (ap (to_z w16) c.if-level-eqminus1.true) in
    rw (c.if-run-eq0-2.true, one) (sym first_zero_minus)

pub returns-else-run-eq0-2-clause-spelled : goal.returns-else-run-eq0-2-clause-spelled
returns-else-run-eq0-2-clause-spelled c =
    let f = c.ranges.level in
    (simp to_z-of_z at c.code_coefficient_zero.ensures.spelled)
    ∙ sym (first_other c.args.run c.args.level
    (λ z e. elim c.else-run-eq0.either [ inl x ↦ x.1 (ap (of_z w16) e) | inr x ↦ x z ])
    (λ z e. elim c.else-run-eq0-2.either [ inl x ↦ x.1 (ap (of_z w16) e) | inr x ↦ x z ]))
