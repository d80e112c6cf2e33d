use Rattle.std.proofs.Common.{List, sym, subst, ap, ◌∙◌}
use Rattle.m2v_law_seam.specs.Spans.{units_in, picture_count}
use Rattle.m2v_mend.specs.declared.member.Member.{Member}
use Rattle.m2v_mend.specs.Kept.{bodies}
use Rattle.m2v_mend.specs.Alone.{HasFirstPicture}
use Rattle.m2v_mend.proofs.Firsts.{unable_none, able_told, unable_told}
use Rattle.m2v_mend.proofs.alone.unable.Goals as goal

pub returns-in_default : goal.returns-in_default
returns-in_default c = λ s is short st.
    unable_none s c.args.parts.now is short (sym (c.is_headed.ensures s is short st) ∙ c.if-not-is_headed.false) c.in_ok-fault_at-2.field-0
    (ap (λ (l : List Member). picture_count (units_in (bodies l))) (sym c.deref.ensures.value) ∙ c.in_default.ensures) c.in_ok-fault_at-2.ensures

pub returns-then-both : goal.returns-then-both
returns-then-both c = λ s is short st.
    able_told s c.args.parts.now is short (sym (c.is_headed.ensures s is short st) ∙ c.if-not-is_headed.false) c.in-Some.first.now c.is_intra.result c.requires
    (subst (λ (l : List Member). HasFirstPicture l c.in-Some.first.now) c.deref.ensures.value c.in-Some.ensures) c.is_intra.ensures.first (sym c.both.ensures ∙ c.if-both.true)

pub returns : goal.returns
returns c = λ s is short st.
    unable_told s c.args.parts.now is short (sym (c.is_headed.ensures s is short st) ∙ c.if-not-is_headed.false) c.in-Some.first.now c.is_intra.result c.in_ok-fault_in.field-0 c.requires
    (subst (λ (l : List Member). HasFirstPicture l c.in-Some.first.now) c.deref.ensures.value c.in-Some.ensures) c.is_intra.ensures.first (sym c.both.ensures ∙ c.if-both.false) c.in_ok-fault_in.ensures
