use Rattle.m2v_vbv.proofs.Constant.{account_is, held_is, under_is, over_is, first_is, safe_to, safe_from, all_safe, delay_is}
use Rattle.m2v_vbv.proofs.buffer_laws.law_constant_rate.Goals as goal

pub returns-clause-account : goal.returns-clause-account
returns-clause-account c = λ start step rest ps. account_is start step rest ps

pub returns-clause-held : goal.returns-clause-held
returns-clause-held c = held_is

pub returns-clause-under : goal.returns-clause-under
returns-clause-under c = under_is

pub returns-clause-over : goal.returns-clause-over
returns-clause-over c = over_is

pub returns-clause-first : goal.returns-clause-first
returns-clause-first c = first_is

pub returns-clause-safe : goal.returns-clause-safe
returns-clause-safe c = λ start step rest ps. (safe_to start step rest ps, safe_from start step rest ps)

pub returns-clause-all : goal.returns-clause-all
returns-clause-all c = all_safe

pub returns-clause-delay : goal.returns-clause-delay
returns-clause-delay c = delay_is
