use Rattle.std.proofs.Common.{refl, sym, ◌∙◌}
use Rattle.std.proofs.lemmas.Result.{on_ok_weaker}
use Rattle.m2v_mend.proofs.FoldLaws.{folded_first, folded_grown, folded_begun, told_some}
use Rattle.m2v_mend.proofs.folding.Folding.with_member.Goals as goal

pub returns-then-begins-clause-told : goal.returns-then-begins-clause-told
returns-then-begins-clause-told c =
    let e = c.in_ok-finish-in-Some.ensures in
    on_ok_weaker c.begin_span-then-begins.result
    (λ b written listed g f n begins.
    folded_begun written listed g c.args.self.now c.finish.new.self c.begin_span-then-begins.new.self c.args.member f n e.heads.heads c.in-Some.parts (sym c.in-Some.ensures.value) (sym begins ∙ c.if-begins.true)
    (told_some written listed g c.args.self.now c.finish.new.self c.in-Some.parts f c.in-Some.ensures.value
    (λ s span of can. e.told written listed g.tally s (record { made = f.made; groups = f.groups; pictures = f.pictures }) span of can))
    b)
    c.begin_span-then-begins.ensures.begun

pub returns-in-None-clause-told : goal.returns-in-None-clause-told
returns-in-None-clause-told c =
    on_ok_weaker c.begin_span.result
    (λ b written listed g f n begins.
    folded_first written listed g c.args.self.now _ c.begin_span.new.self c.args.member f n refl (sym c.in-None.ensures.value) (record { made = f.made; groups = f.groups; pictures = f.pictures }) b)
    c.begin_span.ensures.begun

pub returns-else-begins-clause-told : goal.returns-else-begins-clause-told
returns-else-begins-clause-told c =
    on_ok_weaker c.grow_span.result
    (λ b written listed g f n begins.
    folded_grown written listed g c.args.self.now _ c.grow_span.new.self c.args.member f n refl c.in-Some.parts (sym c.in-Some.ensures.value) (sym begins ∙ c.if-begins.false) (record { made = f.made; groups = f.groups; pictures = f.pictures }) b)
    c.grow_span.ensures.grown
