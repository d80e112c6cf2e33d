use Rattle.m2v_vbv.proofs.Steps.{settled_told, settled_next, run_append, tells_append}
use Rattle.m2v_vbv.proofs.buffer_laws.law_one_by_one.Goals as goal

pub returns-clause-told : goal.returns-clause-told
returns-clause-told c = tells_append

pub returns-clause-run : goal.returns-clause-run
returns-clause-run c = run_append

pub returns-clause-settled : goal.returns-clause-settled
returns-clause-settled c = settled_told

pub returns-clause-next : goal.returns-clause-next
returns-clause-next c = settled_next
