use Rattle.std.proofs.Common.{◌∙◌, arith}
use Rattle.std.proofs.lemmas.Int.{ints, to_z-of_z}
use mir.Syntax.{w32}
use Rattle.m2v_vector.proofs.Wrapping.{joined_is}
use Rattle.m2v_vector.proofs.vectors.join.Goals as goal

pub returns-clause-value : goal.returns-clause-value
returns-clause-value c =
    to_z-of_z w32 c.wrapped.result (record { sfits = c.wrapped.type_inv })
    ∙ joined_is _ _ c.args.residual c.args.pred c.args.code _ _ c.difference.result _ c.wrapped.ensures.value c.factor-f.ensures.value (omega (arith, ints)) c.difference.ensures.value (omega (arith, ints, c.from.ensures))
