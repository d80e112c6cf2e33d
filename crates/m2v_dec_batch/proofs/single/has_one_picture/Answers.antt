use Rattle.std.proofs.Common.{sym, ◌∙◌}
use Rattle.m2v_dec_batch.proofs.Units.{one_here, none_behind}
use Rattle.m2v_dec_batch.proofs.single.has_one_picture.Goals as goal

pub returns-then-value-eq0-clause-one : goal.returns-then-value-eq0-clause-one
returns-then-value-eq0-clause-one c = λ t. c.loop-u.invariant.0 (one_here c.loop-u.units c.next.new.self c.in-Some.u c.in-Some.ensures.next (c.none_begins.ensures.none.0 t))

pub returns-then-value-eq0-clause-every : goal.returns-then-value-eq0-clause-every
returns-then-value-eq0-clause-every c = λ h.
    c.none_begins.ensures.none.1
    (none_behind c.loop-u.units c.next.new.self c.in-Some.u c.in-Some.ensures.next (sym c.value.ensures ∙ c.if-value-eq0.true) (c.loop-u.invariant.1 h))
