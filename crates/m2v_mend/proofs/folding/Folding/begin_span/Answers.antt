use Rattle.std.proofs.Common.{List, ◌++◌, get_or, refl, ap, subst, ◌∙◌}
use Rattle.m2v_decode.specs.Decoding.{whole_of}
use Rattle.m2v_law_seam.specs.Spans.{units_of}
use Rattle.m2v_mend.specs.declared.member.Member.{Member}
use Rattle.m2v_mend.specs.Heading.{IsHeads}
use Rattle.m2v_mend.proofs.folding.Folding.begin_span.Goals as goal

pub returns-clause-begun : goal.returns-clause-begun
returns-clause-begun c =
    let first = c.index.ensures ∙ ap (λ (ms : List Member). get_or ms 0 c.index.result.now) c.in_ok-parts.ensures.alone in
    record {
      heads = λ before h. subst (λ (m : Member). IsHeads (before ++ units_of (whole_of m.piece)) c.take.new.self) first (c.in_ok-take.ensures before h);
      span = λ before h zeros. c.in_ok-parts.ensures.told before h zeros;
      told = record { mender = refl; groups = refl; pictures = refl; waiting = refl };
    }
