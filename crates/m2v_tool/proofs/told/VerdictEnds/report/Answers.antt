use Rattle.std.proofs.Common.{IfOk, sym, subst}
use Rattle.m2v_make.specs.m2v_check.declared.verdict.Verdict.{Verdict}
use Rattle.m2v_tool.specs.Endings.{IsReport}
use Rattle.m2v_tool.specs.Checking.{verdict_ending}
use Rattle.m2v_tool.proofs.told.VerdictEnds.report.Goals as goal

pub returns-in-Unlawful : goal.returns-in-Unlawful
unfolding verdict_ending
returns-in-Unlawful c =
    subst (λ (v : Verdict). IfOk c.new.result (λ r. IsReport r (verdict_ending v))) (sym c.in-Unlawful.is)
    (rw (c.from.ensures, c.from-in-Unlawful.ensures) at c.new.ensures)
