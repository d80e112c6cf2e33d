use Rattle.std.proofs.Common.{All}
use Rattle.m2v_idct.specs.Ranges.{IsCoefficient}
use Rattle.m2v_test_trials.proofs.idct.coefficients.Given as goal

abbrev pub invariant-loop-i : goal.invariant-loop-i
invariant-loop-i l = All IsCoefficient l.block
