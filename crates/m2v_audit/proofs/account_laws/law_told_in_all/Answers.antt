use Rattle.m2v_audit.proofs.Reports.{told_onward, told_in_all, each_told, removals_told}
use Rattle.m2v_audit.proofs.account_laws.law_told_in_all.Goals as goal

pub returns-clause-all : goal.returns-clause-all
returns-clause-all c = told_in_all

pub returns-clause-onward : goal.returns-clause-onward
returns-clause-onward c = told_onward

pub returns-clause-each : goal.returns-clause-each
returns-clause-each c = each_told

pub returns-clause-removals : goal.returns-clause-removals
returns-clause-removals c = removals_told
