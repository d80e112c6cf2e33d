use Rattle.std.proofs.Common.{◌≡◌, drop}
use Rattle.m2v_audit.specs.Others.{with_own_remarks}
use Rattle.m2v_audit.proofs.besides.tell_others.Given as goal

abbrev pub invariant-loop-other : goal.invariant-loop-other
invariant-loop-other l = record {
  value : with_own_remarks l.report l.picture (drop l.other-index l.others) ≡ with_own_remarks l.fn.report l.picture l.fn.others;
}
