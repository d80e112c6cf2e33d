use Rattle.m2v_law_audit.proofs.AccountFailures.{fails_where_none_delivers}
use Rattle.m2v_law_audit.proofs.account_laws.law_variable.Goals as goal

pub returns : goal.returns
returns c = λ text tree stream. fails_where_none_delivers text tree
