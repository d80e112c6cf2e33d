use Rattle.std.proofs.Common.{sym, ◌∙◌}
use Rattle.std.proofs.lemmas.Int.{to_z-of_z}
use Rattle.m2v_macro.proofs.Components.{no_residual}
use Rattle.m2v_macro.proofs.vectors.residual.Goals as goal

pub returns-then-has_residual-clause-none : goal.returns-then-has_residual-clause-none
returns-then-has_residual-clause-none c =
    let code = c.ranges.code in
    let told = simp to_z-of_z at c.has_residual.ensures in
    λ e. absurd (no_residual c.args.f_code c.args.code (sym told ∙ c.if-has_residual.true) e)
