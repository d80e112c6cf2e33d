use Rattle.std.proofs.Common.{◌%◌, ◌∙◌}
use Rattle.std.proofs.lemmas.Int.{to_z-of_z}
use mir.Syntax.{w32}
use mir.Val.{SFits}
use Rattle.m2v_quant.specs.Coefficients.{coefficients_of}
use Rattle.m2v_quant.specs.Sparse.{spread}
use Rattle.m2v_quant.proofs.Kept.{level_fits}
use Rattle.m2v_quant.proofs.Reconstruction.{mismatched}
use Rattle.m2v_quant.proofs.sparse.SparseLevelsBlockLevels.coefficients.Goals as goal

pub returns-clause-value : goal.returns-clause-value
returns-clause-value c =
    let s = c.self.inside in
    let first : SFits w32 s.first = level_fits s.first c.self.invariant.first_is in
    mismatched (spread s.first s.later s.count) c.args.kind.now c.saturate-told.new.out c.turn_last.new.out (c.saturate-told.result.parity % 2) c.saturate-told.array_long
    (simp to_z-of_z at c.saturate-told.ensures.value) (simp to_z-of_z at c.saturate-told.ensures.parity) c.turn_last.ensures.even c.turn_last.ensures.odd
    ∙ (λ i. coefficients_of (c.self.view_is i).at c.args.kind.now)
