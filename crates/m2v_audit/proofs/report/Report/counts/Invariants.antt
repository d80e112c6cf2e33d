use Rattle.std.proofs.Common.{◌≡◌, ◌-◌}
use Rattle.m2v_audit.specs.Report.{with_counts}
use Rattle.m2v_audit.proofs.report.Report.counts.Given as goal

abbrev pub invariant-loop-rule : goal.invariant-loop-rule
invariant-loop-rule l = l.self ≡ with_counts (l.rule - 1) l.fn.self
