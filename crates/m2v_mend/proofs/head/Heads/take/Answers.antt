use Rattle.std.proofs.Common.{List, ℕ, sym, ap, subst, ◌∙◌}
use Rattle.m2v_dec_unit.specs.Texts.{text_of}
use Rattle.m2v_law_seam.specs.Spans.{units_of}
use Rattle.m2v_mend.specs.Heading.{IsOnce}
use Rattle.m2v_mend.proofs.HeadLaws.{heads_same}
use Rattle.m2v_mend.proofs.head.Heads.take.Goals as goal

pub take_all-requires-clause-once : goal.take_all-requires-clause-once
take_all-requires-clause-once c = λ on.
    let p = c.args.member.now.piece in
    let once = c.is_once-once.ensures on in
    let text = ap (λ (l : List ℕ). text_of l c.zeros_of.result) c.deref.ensures.value ∙ ap (λ (n : ℕ). text_of p.bytes.items n) c.zeros_of.ensures in
    subst (λ (b : List ℕ). IsOnce (units_of b)) (sym text) (record { once = sym c.requires.info.again ∙ once.0; none = sym c.requires.info.matrices ∙ once.1 })

pub returns : goal.returns
returns c = heads_same _ _ c.if-self.false (sym c.requires.info.sequence ∙ c.if-member.false) (sym c.requires.info.matrices ∙ c.if-member-2.false)
