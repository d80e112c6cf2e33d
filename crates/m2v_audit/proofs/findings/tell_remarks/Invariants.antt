use Rattle.std.proofs.Common.{◌≡◌, drop}
use Rattle.m2v_strict.specs.Remarks.{told_by as remarks_by}
use Rattle.m2v_audit.specs.Findings.{with_remarks}
use Rattle.m2v_audit.proofs.findings.tell_remarks.Given as goal

abbrev pub invariant-loop-each : goal.invariant-loop-each
invariant-loop-each l = record {
  value : with_remarks l.report l.place.picture l.place.bit (remarks_by (drop l.each-index l.remarks))
      ≡ with_remarks l.fn.report l.place.picture l.place.bit (remarks_by l.fn.remarks);
}
