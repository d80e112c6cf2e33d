use Rattle.m2v_check.proofs.RuleLaws.{is_found}
use Rattle.m2v_check.proofs.laws.law_rules.Goals as goal

pub returns : goal.returns
returns c = is_found
