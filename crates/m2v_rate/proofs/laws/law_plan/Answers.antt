use Rattle.m2v_rate.proofs.Lows.{caps_held}
use Rattle.m2v_rate.proofs.Same.{plan_same, plan_early}
use Rattle.m2v_rate.proofs.BothPlans.{plan_is}
use Rattle.m2v_rate.proofs.Caps.{slices_sum}
use Rattle.m2v_rate.proofs.laws.law_plan.Goals as goal

pub returns-clause-is : goal.returns-clause-is
returns-clause-is c = plan_is

pub returns-clause-sees : goal.returns-clause-sees
returns-clause-sees c = plan_same

pub returns-clause-slices : goal.returns-clause-slices
returns-clause-slices c = slices_sum

pub returns-clause-early : goal.returns-clause-early
returns-clause-early c = plan_early

pub returns-clause-held : goal.returns-clause-held
returns-clause-held c = caps_held
