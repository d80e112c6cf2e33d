use Rattle.std.proofs.Common.{◌≡◌, drop}
use Rattle.m2v_strict.specs.m2v_check.Breaking.{told_by}
use Rattle.m2v_audit.specs.Findings.{with_breaches}
use Rattle.m2v_audit.proofs.findings.tell_breaches.Given as goal

abbrev pub invariant-loop-place : goal.invariant-loop-place
invariant-loop-place l = record {
  value : with_breaches l.report l.picture l.bit (told_by (drop l.place-index l.places)) ≡ with_breaches l.fn.report l.picture l.bit (told_by l.fn.places);
}
