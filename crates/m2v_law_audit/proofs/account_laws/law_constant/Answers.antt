use Rattle.m2v_law_audit.proofs.AccountChecked.{fails_as_checked}
use Rattle.m2v_law_audit.proofs.account_laws.law_constant.Goals as goal

pub returns : goal.returns
returns c = fails_as_checked
