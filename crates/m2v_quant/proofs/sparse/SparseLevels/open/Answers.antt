use Rattle.std.proofs.Common.{ap, ◌∷◌, pos, replicate, w32, ℤ}
use Rattle.std.proofs.lemmas.Int.{to_z-of_z}
use Rattle.m2v_quant.specs.Sparse.{spread}
use Rattle.m2v_quant.proofs.Kept.{opened_clear}
use Rattle.m2v_quant.proofs.sparse.SparseLevels.open.Goals as goal

pub returns-clause-value : goal.returns-clause-value
unfolding spread
returns-clause-value c = ap (λ (z : ℤ). z ∷ replicate 63 (pos 0)) (to_z-of_z w32 c.args.first c.ranges.first)

pub returns-clause-clear : goal.returns-clause-clear
unfolding spread
returns-clause-clear c = opened_clear _
