use Rattle.std.proofs.Common.{◌≡◌, drop}
use Rattle.m2v_audit.specs.Findings.{with_misplaced}
use Rattle.m2v_audit.proofs.findings.tell_misplaced.Given as goal

abbrev pub invariant-loop-place : goal.invariant-loop-place
invariant-loop-place l = with_misplaced l.report (drop l.place-index l.places) ≡ with_misplaced l.fn.report l.fn.places
