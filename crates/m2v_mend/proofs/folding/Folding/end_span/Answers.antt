use Rattle.std.proofs.lemmas.Result.{on_ok_weaker}
use Rattle.m2v_mend.proofs.FoldLaws.{told_none, told_some}
use Rattle.m2v_mend.proofs.folding.Folding.end_span.Goals as goal

pub returns-in-None-clause-ended : goal.returns-in-None-clause-ended
returns-in-None-clause-ended c written listed g f =
    told_none written listed g c.args.self.now.parts _ f.at_hand c.in-None.ensures.value (record { made = f.made; groups = f.groups; pictures = f.pictures })

pub returns-in-Some-clause-ended : goal.returns-in-Some-clause-ended
returns-in-Some-clause-ended c =
    on_ok_weaker c.finish.result
    (λ told written listed g f.
    told_some written listed g c.args.self.now c.finish.new.self c.in-Some.parts f c.in-Some.ensures.value
    (λ s span of can. told written listed g.tally s (record { made = f.made; groups = f.groups; pictures = f.pictures }) span of can))
    c.finish.ensures.told
