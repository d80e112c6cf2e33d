use Rattle.std.proofs.Common.{◌-◌, List, take, drop, length, refl, ap, ◌∙◌}
use Rattle.m2v_model.specs.Units.{joined}
use Rattle.m2v_law_seam.specs.Spans.{units_in, picture_count}
use Rattle.m2v_mend.specs.declared.member.Member.{Member}
use Rattle.m2v_mend.specs.Kept.{bodies}
use Rattle.m2v_mend.proofs.Firsts.{leading_is}
use Rattle.m2v_mend.proofs.alone.leading_of.Goals as goal

pub returns : goal.returns
returns c = λ s is short.
    let h = c.args.shape in
    let ms = c.args.parts.now.members.items in
    let part : List Member → List Member = λ l. take (h.behind - h.frame) (drop h.frame l) in
    leading_is s c.args.parts.now is short h c.requires.shape _ (take h.frame c.deref.result.now) refl c.in_ok-before.ensures (ap (take h.frame) c.deref.ensures.value)
    (c.in_ok-bytes.ensures ∙ ap (λ (l : List Member). length (joined (bodies (part l)))) c.deref-2.ensures.value)
    (c.in_ok-pictures.ensures ∙ ap (λ (l : List Member). picture_count (units_in (bodies (part l)))) c.deref-3.ensures.value)
