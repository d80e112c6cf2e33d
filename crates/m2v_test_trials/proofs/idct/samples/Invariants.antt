use Rattle.std.proofs.Common.{All}
use Rattle.m2v_idct.specs.Ranges.{IsSample}
use Rattle.m2v_test_trials.proofs.idct.samples.Given as goal

abbrev pub invariant-loop-i : goal.invariant-loop-i
invariant-loop-i l = All IsSample l.block
