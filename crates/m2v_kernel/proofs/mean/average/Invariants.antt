use Rattle.std.proofs.Common.{◌≡◌, take}
use Rattle.std.specs.Simd.Lanes.{zip2}
use Rattle.m2v_kernel.specs.Sums.{mean}
use Rattle.m2v_kernel.proofs.mean.average.Given as goal

abbrev pub invariant-loop-i : goal.invariant-loop-i
invariant-loop-i l = take l.i l.out ≡ take l.i (zip2 mean l.a l.b)
