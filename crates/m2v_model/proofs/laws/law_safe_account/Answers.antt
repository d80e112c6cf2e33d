use Rattle.m2v_model.proofs.VerdictLaws.{judged_by_all}
use Rattle.m2v_model.proofs.laws.law_safe_account.Goals as goal

pub returns : goal.returns
returns c = judged_by_all
