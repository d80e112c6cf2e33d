use Rattle.std.proofs.Common.{◌∙◌, ap, sym, ◌*◌, ℕ, Bool, w32}
use Rattle.std.proofs.lemmas.Int.{to_z-of_z}
use mir.Val.{SFits}
use Rattle.std.specs.Prelude.{slice_index}
use Rattle.m2v_quant.specs.Coefficients.{ac_coefficient, saturated}
use Rattle.m2v_quant.proofs.Scanned.{later_is}
use Rattle.m2v_quant.proofs.inverse.later_coefficient.Goals as goal

pub returns-clause-value : goal.returns-clause-value
returns-clause-value c =
    let level = c.ranges.level in
    let fits : SFits w32 c.some_ac.result = record { sfits = c.some_ac.type_inv } in
    let value = simp to_z-of_z at c.some_ac.ensures.value in
    to_z-of_z w32 c.some_ac.result fits ∙ value
    ∙ ap (λ (n : ℕ). saturated (ac_coefficient c.args.intra n c.args.level)) c.step.ensures.value
    ∙ ap (λ (b : Bool). saturated (ac_coefficient b (slice_index c.args.kind.now.matrix c.args.place * c.args.kind.now.scale) c.args.level)) (sym c.requires.intra)
    ∙ later_is c.args.kind.now c.args.place c.args.level c.requires.later
