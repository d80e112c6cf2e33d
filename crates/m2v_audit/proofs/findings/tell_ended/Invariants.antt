use Rattle.std.proofs.Common.{◌≡◌, length}
use Rattle.m2v_audit.specs.Account.{ended}
use Rattle.m2v_audit.specs.Findings.{with_removals}
use Rattle.m2v_audit.proofs.findings.tell_ended.Given as goal

abbrev pub invariant-loop-due : goal.invariant-loop-due
invariant-loop-due l = with_removals l.report l.rate (ended l.account) ≡ with_removals l.fn.report l.rate (ended l.fn.account)

abbrev pub decreases-loop-due : goal.decreases-loop-due
decreases-loop-due l = length (ended l.account)
