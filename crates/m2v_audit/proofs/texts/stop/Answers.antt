use Rattle.std.proofs.Common.{ap, ◌∙◌}
use Rattle.m2v_audit.specs.Auditing.{Auditing}
use Rattle.m2v_audit.proofs.LeadLaws.{first_line, cuts_after}
use Rattle.m2v_audit.proofs.texts.stop.Goals as goal

pub returns-clause-err : goal.returns-clause-err
returns-clause-err g c =
    cuts_after g.K.Sink.held g.K.Sink.faults _ _ _ _ _ _ _ _ c.put.ensures.output.counts c.in_ok-put.ensures.grown
    (first_line _ _ _ (c.bytes.ensures ∙ c.in_ok-stopping_line.ensures) c.new-lines.ensures)
    (c.bytes-2.ensures ∙ ap (λ (a : Auditing). a.report.text) c.in_ok-stop.ensures)
    c.put-2.ensures.err
