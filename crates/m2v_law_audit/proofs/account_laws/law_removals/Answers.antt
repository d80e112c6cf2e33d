use Rattle.m2v_law_audit.proofs.RemovalTurns.{removals_in}
use Rattle.m2v_law_audit.proofs.RemovalFailures.{failures_in}
use Rattle.m2v_law_audit.proofs.account_laws.law_removals.Goals as goal

pub returns-clause-removals : goal.returns-clause-removals
returns-clause-removals c = removals_in

pub returns-clause-failures : goal.returns-clause-failures
returns-clause-failures c = failures_in
