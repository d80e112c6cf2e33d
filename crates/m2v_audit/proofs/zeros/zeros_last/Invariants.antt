use Rattle.std.proofs.Common.{◌≡◌, ◌≤◌, ◌+◌, ◌-◌, length, take}
use Rattle.m2v_model.specs.Pieces.{zeros_last}
use Rattle.m2v_audit.proofs.zeros.zeros_last.Given as goal

abbrev pub invariant-loop-end : goal.invariant-loop-end
invariant-loop-end l = record {
  within : l.end ≤ length l.bytes;
  value : zeros_last l.bytes ≡ (length l.bytes - l.end) + zeros_last (take l.end l.bytes);
}

abbrev pub decreases-loop-end : goal.decreases-loop-end
decreases-loop-end l = l.end
