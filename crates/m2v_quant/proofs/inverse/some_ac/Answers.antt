use Rattle.std.proofs.Common.{◌∙◌, ap, ◌+◌, ◌*◌, ◌/◌, ℕ, cond}
use Rattle.std.specs.Prelude.{min}
use Rattle.std.proofs.lemmas.Int.{to_z-of_z}
use mir.Syntax.{w32}
use mir.Val.{SFits}
use Rattle.m2v_quant.specs.Quantiser.{with_sign}
use Rattle.m2v_quant.specs.Coefficients.{saturated}
use Rattle.m2v_quant.proofs.Reconstruction.{ac_is, some_size}
use Rattle.m2v_quant.proofs.inverse.some_ac.Goals as goal

pub some_extra-requires : goal.some_extra-requires
some_extra-requires c =
    let level = c.ranges.level in
    let size = simp to_z-of_z at c.unsigned_abs-size.ensures.value in
    rw size (some_size c.args.level c.requires.some)

pub returns-clause-value : goal.returns-clause-value
returns-clause-value c =
    let level = c.ranges.level in
    let fits : SFits w32 c.kept.result = record { sfits = c.kept.type_inv } in
    let size = simp to_z-of_z at c.unsigned_abs-size.ensures.value in
    let kept = simp to_z-of_z at c.kept.ensures.value in
    let sized = c.ac_size.ensures
    ∙ ap (λ (n : ℕ). (2 * c.unsigned_abs-size.result + n) * c.args.step / 32) c.some_extra.ensures.value
    ∙ ap (λ (n : ℕ). (2 * n + cond c.args.intra 0 (min n 1)) * c.args.step / 32) size in
    to_z-of_z w32 c.kept.result fits ∙ kept ∙ ap saturated (ap (with_sign c.args.level) sized ∙ ac_is c.args.intra c.args.step c.args.level)
