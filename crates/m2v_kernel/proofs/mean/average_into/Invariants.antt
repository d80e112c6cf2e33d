use Rattle.std.proofs.Common.{◌≡◌, ℕ, ◌≤◌, take, get_or}
use Rattle.std.specs.Simd.Lanes.{zip2}
use Rattle.m2v_kernel.specs.Sums.{mean}
use Rattle.m2v_kernel.proofs.mean.average_into.Given as goal

abbrev pub invariant-loop-i : goal.invariant-loop-i
invariant-loop-i l = record {
  done : take l.i l.out ≡ take l.i (zip2 mean l.fn.out l.other);
  rest : (k : ℕ) → l.i ≤ k → get_or l.out k 0 ≡ get_or l.fn.out k 0;
}
