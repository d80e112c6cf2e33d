use Rattle.std.proofs.Common.{◌∙◌, arith}
use Rattle.std.proofs.lemmas.Int.{ints, to_z-of_z}
use mir.Syntax.{w32}
use Rattle.m2v_vector.proofs.Wrapping.{between_is}
use Rattle.m2v_vector.proofs.vectors.between.Goals as goal

pub returns-clause-value : goal.returns-clause-value
returns-clause-value c = to_z-of_z w32 c.wrapped.result (record { sfits = c.wrapped.type_inv }) ∙ between_is _ _ c.args.pred c.args.vector _ _ c.wrapped.ensures.value c.factor.ensures.value (omega (arith, ints))
