use Rattle.std.proofs.Common.{◌≡◌, ◌-◌, ◌≤◌, length, drop, replicate}
use Rattle.m2v_mend.proofs.limits.up_to_zeros.Given as goal

abbrev pub invariant-loop-n : goal.invariant-loop-n
invariant-loop-n l = record {
  within : l.n ≤ length l.bytes;
  zeros : drop l.n l.bytes ≡ replicate (length l.bytes - l.n) 0;
}

abbrev pub decreases-loop-n : goal.decreases-loop-n
decreases-loop-n l = l.n
