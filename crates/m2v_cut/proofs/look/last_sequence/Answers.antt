use Rattle.std.proofs.Common.{subst, ◌∙◌, ap}
use Rattle.m2v_model.specs.Units.{Units, unit_bits}
use Rattle.m2v_cut.proofs.Scans.{Passed, passed_none, passed_more, passed_all, passed_end}
use Rattle.m2v_cut.proofs.look.last_sequence.Goals as goal

pub loop-found-init : goal.loop-found-init
loop-found-init c = passed_none c.args.number c.args.units.now

pub returns-in-None : goal.returns-in-None
returns-in-None c =
    passed_end _ _ c.loop-found.number c.loop-found.found
    (subst (λ (us : Units). Passed c.args.number c.args.units.now c.loop-found.number us c.loop-found.found) c.in-None.ensures.next.0 c.loop-found.invariant)

pub returns-in-None-number_behind : goal.returns-in-None-number_behind
returns-in-None-number_behind c =
    passed_all _ _ _ _ _ c.loop-found.number c.in-None-number_behind.ensures
    (subst (λ (us : Units). Passed c.args.number c.args.units.now c.loop-found.number us c.loop-found.found) c.in-Some.ensures.next c.loop-found.invariant)

pub loop-found-preserved : goal.loop-found-preserved
loop-found-preserved c =
    passed_more _ _ c.loop-found.number _ _ c.loop-found.found _ _ _
    (subst (λ (us : Units). Passed c.args.number c.args.units.now c.loop-found.number us c.loop-found.found) c.in-Some.ensures.next c.loop-found.invariant)
    c.in-Some-number_behind.ensures
    (c.left-left.ensures.value ∙ ap unit_bits c.in-Some.ensures.next)
    c.found_behind-found.ensures
