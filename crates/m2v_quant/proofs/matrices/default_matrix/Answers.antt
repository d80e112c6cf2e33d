use Rattle.std.proofs.Common.{arith, refl}
use Rattle.std.proofs.lemmas.List.Elements.{All-replicate}
use Rattle.m2v_quant.specs.Matrices.{default_matrix, intra_matrix}
use Rattle.m2v_quant.proofs.Tables.{intra_weights, IsWeight}
use Rattle.m2v_quant.proofs.matrices.default_matrix.Goals as goal

pub returns-then-intra-clause-value : goal.returns-then-intra-clause-value
unfolding default_matrix intra_matrix
returns-then-intra-clause-value c = rw c.if-intra.true refl

pub returns-then-intra-clause-weights : goal.returns-then-intra-clause-weights
returns-then-intra-clause-weights c = intra_weights

pub returns-else-intra-clause-value : goal.returns-else-intra-clause-value
unfolding default_matrix
returns-else-intra-clause-value c = rw c.if-intra.false refl

pub returns-else-intra-clause-weights : goal.returns-else-intra-clause-weights
returns-else-intra-clause-weights c = All-replicate IsWeight 64 16 (omega arith, omega arith)
