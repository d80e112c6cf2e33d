use Rattle.m2v_model.proofs.VerdictLaws.{one_verdict}
use Rattle.m2v_model.proofs.laws.law_one_verdict.Goals as goal

pub returns : goal.returns
returns c = one_verdict
