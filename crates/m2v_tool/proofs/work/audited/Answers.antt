use Rattle.m2v_tool.specs.Auditing.{AuditComes}
use Rattle.m2v_tool.proofs.work.audited.Goals as goal

pub returns-in-Ok-clause-comes : goal.returns-in-Ok-clause-comes
unfolding AuditComes
returns-in-Ok-clause-comes g c = c.in-Ok.ensures.ok

pub returns-in-Err-clause-comes : goal.returns-in-Err-clause-comes
unfolding AuditComes
returns-in-Err-clause-comes g c = c.in-Err.ensures.err
