use Rattle.m2v_law_audit.proofs.BreachTexts.{all_told, as_many}
use Rattle.m2v_law_audit.proofs.breach_laws.law_breaches.Goals as goal

pub returns-clause-same : goal.returns-clause-same
returns-clause-same c = all_told

pub returns-clause-count : goal.returns-clause-count
returns-clause-count c = as_many
