use Rattle.std.proofs.Common.{refl, sym, ap, ◌∙◌}
use Rattle.m2v_tool.proofs.Y4mCodingLaws.{encoded_read, broken_read_off}
use Rattle.m2v_tool.proofs.beside.coded_behind.Goals as goal

pub returns-then-not-stopped_reading-clause-comes : goal.returns-then-not-stopped_reading-clause-comes
returns-then-not-stopped_reading-clause-comes g c =
    encoded_read g.S.Source.left g.S.Source.faults _ c.args.source.now.text c.args.source.now.inner c.encoded-outcome.new.input.text c.encoded-outcome.new.input.inner _ _ _ _ c.encoded-outcome.result
    c.requires.unfailed (λ is. absurd (c.if-not-stopped_reading.ensures.no refl is)) (λ same. (ap (λ s. s.text.at) same, ap (λ s. g.S.Source.left s.inner) same)) c.encoded-outcome.ensures.comes

pub returns-in-Some-clause-comes : goal.returns-in-Some-clause-comes
returns-in-Some-clause-comes g c =
    broken_read_off g.S.Source.left g.S.Source.faults _ c.args.source.now.text c.args.source.now.inner c.encoded-outcome.new.input.text c.encoded-outcome.new.input.inner _ _ _ _ c.in-Some.fault c.encoded-outcome.result
    (sym c.fault.ensures.value ∙ c.in-Some.is) (c.if-not-stopped_reading.ensures.yes refl) c.encoded-outcome.ensures.comes

pub returns-in-None-clause-comes : goal.returns-in-None-clause-comes
returns-in-None-clause-comes g c =
    encoded_read g.S.Source.left g.S.Source.faults _ c.args.source.now.text c.args.source.now.inner c.encoded-outcome.new.input.text c.encoded-outcome.new.input.inner _ _ _ _ c.encoded-outcome.result
    c.requires.unfailed (λ is. c.fault.ensures.none c.in-None.is) (λ same. (ap (λ s. s.text.at) same, ap (λ s. g.S.Source.left s.inner) same)) c.encoded-outcome.ensures.comes
