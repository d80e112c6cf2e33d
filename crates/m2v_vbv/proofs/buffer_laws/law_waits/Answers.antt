use Rattle.m2v_vbv.proofs.Fine.{wait_fine}
use Rattle.m2v_vbv.proofs.Waits.{whole_then, not_sooner}
use Rattle.m2v_vbv.proofs.buffer_laws.law_waits.Goals as goal

pub returns-clause-none : goal.returns-clause-none
returns-clause-none c = wait_fine

pub returns-clause-whole : goal.returns-clause-whole
returns-clause-whole c = whole_then

pub returns-clause-fewest : goal.returns-clause-fewest
returns-clause-fewest c = not_sooner
