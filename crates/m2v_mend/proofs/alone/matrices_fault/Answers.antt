use Rattle.std.proofs.Common.{◌-◌, List, take, drop, sym, subst, ap, ◌∙◌}
use Rattle.std.proofs.lemmas.List.Elements.{All-take, All-drop}
use Rattle.m2v_law_seam.specs.Spans.{units_in, has_matrices}
use Rattle.m2v_mend.specs.declared.member.Member.{Member}
use Rattle.m2v_mend.specs.Members.{IsMember}
use Rattle.m2v_mend.specs.Kept.{bodies}
use Rattle.m2v_mend.specs.Alone.{HasFirstMatrices}
use Rattle.m2v_mend.proofs.Firsts.{matrices_clear, matrices_told}
use Rattle.m2v_mend.proofs.alone.matrices_fault.Goals as goal

pub returns-in_default : goal.returns-in_default
returns-in_default c = λ s is short.
    let h = c.args.shape in
    matrices_clear s c.args.parts.now is short h c.requires.shape
    (ap (λ (l : List Member). has_matrices (units_in (bodies (take (h.behind - h.frame) (drop h.frame l))))) (sym c.deref.ensures.value) ∙ c.in_default.ensures)

pub returns : goal.returns
returns c = λ s is short.
    let h = c.args.shape in
    matrices_told s c.args.parts.now is short h c.requires.shape c.in-Some.first.now c.in_ok-fault_in.field-0 (All-take IsMember (h.behind - h.frame) (drop h.frame c.args.parts.now.members.items) (All-drop IsMember h.frame c.args.parts.now.members.items c.requires.members))
    (subst (λ (l : List Member). HasFirstMatrices (take (h.behind - h.frame) (drop h.frame l)) c.in-Some.first.now) c.deref.ensures.value c.in-Some.ensures) c.in_ok-fault_in.ensures
