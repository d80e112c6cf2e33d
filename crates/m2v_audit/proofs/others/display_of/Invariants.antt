use Rattle.std.proofs.Common.{◌≡◌, drop}
use Rattle.m2v_audit.specs.Others.{display_of}
use Rattle.m2v_audit.proofs.others.display_of.Given as goal

abbrev pub invariant-loop-other : goal.invariant-loop-other
invariant-loop-other l = record { value : display_of (drop l.other-index l.others) ≡ display_of l.fn.others }
