use Rattle.std.proofs.Common.{◌≡◌, length}
use Rattle.m2v_audit.specs.Account.{settled, after_settled}
use Rattle.m2v_audit.specs.Findings.{with_removals}
use Rattle.m2v_audit.proofs.findings.tell_settled.Given as goal

abbrev pub invariant-loop-due : goal.invariant-loop-due
invariant-loop-due l = record {
  value : with_removals l.report l.rate (settled l.account) ≡ with_removals l.fn.report l.rate (settled l.fn.account);
  after : after_settled l.account ≡ after_settled l.fn.account;
}

abbrev pub decreases-loop-due : goal.decreases-loop-due
decreases-loop-due l = length (settled l.account)
