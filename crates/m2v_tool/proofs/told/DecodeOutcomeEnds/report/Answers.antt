use Rattle.std.proofs.Common.{IfOk, sym, subst}
use Rattle.m2v_tool.specs.declared.decode.DecodeOutcome.{DecodeOutcome}
use Rattle.m2v_tool.specs.Endings.{IsReport}
use Rattle.m2v_tool.specs.Decoding.{decode_ending, shown_ending}
use Rattle.m2v_tool.proofs.told.DecodeOutcomeEnds.report.Goals as goal

pub returns-in-Shown : goal.returns-in-Shown
unfolding decode_ending shown_ending
returns-in-Shown c =
    subst (λ (o : DecodeOutcome). IfOk c.new.result (λ r. IsReport r (decode_ending o))) (sym c.in-Shown.is)
    (rw (c.from.ensures, c.from-in-Shown.ensures, c.from-in-Shown-2.ensures) at c.new.ensures)
