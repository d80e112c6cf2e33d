use Rattle.std.proofs.Common.{arith}
use Rattle.std.proofs.lemmas.Int.{ints}
use Rattle.m2v_vector.proofs.Wrapping.{wrap_low, wrap_high}
use Rattle.m2v_vector.proofs.vectors.wrapped.Goals as goal

pub returns-then-v-f-clause-value : goal.returns-then-v-f-clause-value
returns-then-v-f-clause-value c = rw (wrap_low c.args.f c.args.v (omega (arith, ints))) (omega (arith, ints))

pub returns-then-f-v-clause-value : goal.returns-then-f-v-clause-value
returns-then-f-v-clause-value c = rw (wrap_high c.args.f c.args.v (omega (arith, ints))) (omega (arith, ints))
