use Rattle.std.proofs.Common.{IfOk, sym, subst}
use Rattle.m2v_vbv.specs.declared.fault.AccountFault.{AccountFault}
use Rattle.m2v_tool.specs.Endings.{IsReport}
use Rattle.m2v_tool.specs.Checking.{account_ending}
use Rattle.m2v_tool.proofs.told.AccountFaultEnds.report.Goals as goal

pub returns-in-Under : goal.returns-in-Under
unfolding account_ending
returns-in-Under c =
    subst (λ (f : AccountFault). IfOk c.new.result (λ r. IsReport r (account_ending f))) (sym c.in-Under.is)
    (rw (c.from.ensures) at c.new.ensures)

pub returns-in-Over : goal.returns-in-Over
unfolding account_ending
returns-in-Over c =
    subst (λ (f : AccountFault). IfOk c.new-in-Over.result (λ r. IsReport r (account_ending f))) (sym c.in-Over.is)
    (rw (c.from-in-Over.ensures) at c.new-in-Over.ensures)
