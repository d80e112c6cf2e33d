use Rattle.m2v_law_audit.proofs.RemovalFailures.{tells_all_failures}
use Rattle.m2v_law_audit.proofs.VerdictTells.{tells_all}
use Rattle.m2v_law_audit.proofs.VerdictLaws.{finds_nothing_where_lawful, lawful_where_clean}
use Rattle.m2v_law_audit.proofs.verdict_laws.law_verdicts.Goals as goal

pub returns-clause-breaches : goal.returns-clause-breaches
returns-clause-breaches c = tells_all

pub returns-clause-failures : goal.returns-clause-failures
returns-clause-failures c = tells_all_failures

pub returns-clause-lawful : goal.returns-clause-lawful
returns-clause-lawful c = finds_nothing_where_lawful

pub returns-clause-clean : goal.returns-clause-clean
returns-clause-clean c = lawful_where_clean
