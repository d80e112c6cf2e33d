use Rattle.m2v_audit.proofs.Reports.{settled_stays, open_differs, nothing_left, few_wait}
use Rattle.m2v_audit.proofs.account_laws.law_as_soon_as_settled.Goals as goal

pub returns-clause-told : goal.returns-clause-told
returns-clause-told c = λ b p known more e. (settled_stays b p known more e).0

pub returns-clause-next : goal.returns-clause-next
returns-clause-next c = λ b p known more e. (settled_stays b p known more e).1

pub returns-clause-not_sooner : goal.returns-clause-not_sooner
returns-clause-not_sooner c = open_differs

pub returns-clause-none : goal.returns-clause-none
returns-clause-none c = nothing_left

pub returns-clause-few : goal.returns-clause-few
returns-clause-few c = few_wait
