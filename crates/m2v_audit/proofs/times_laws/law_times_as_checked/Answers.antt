use Rattle.m2v_audit.proofs.Showing.{same_step, all_times}
use Rattle.m2v_audit.proofs.times_laws.law_times_as_checked.Goals as goal

pub returns-clause-step : goal.returns-clause-step
returns-clause-step c = same_step

pub returns-clause-all : goal.returns-clause-all
returns-clause-all c = all_times
