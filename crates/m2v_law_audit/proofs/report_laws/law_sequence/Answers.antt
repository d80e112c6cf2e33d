use Rattle.m2v_law_audit.proofs.ReportStands.{stands_in}
use Rattle.m2v_law_audit.proofs.report_laws.law_sequence.Goals as goal

pub returns : goal.returns
returns c = stands_in
