use Rattle.m2v_check.proofs.Accounting.{runs_on}
use Rattle.m2v_check.proofs.laws.law_account.Goals as goal

pub returns : goal.returns
returns c = runs_on
