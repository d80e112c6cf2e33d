use Rattle.m2v_law_audit.proofs.ReportLines.{by_lines}
use Rattle.m2v_law_audit.proofs.report_laws.law_told_by_lines.Goals as goal

pub returns : goal.returns
returns c = by_lines
