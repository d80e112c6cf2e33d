use Rattle.std.proofs.Common.{◌+◌, length, ap, sym, ◌∙◌, arith}
use Rattle.m2v_dec_unit.proofs.Passed.{passed_none, passed_more, passed_here, passed_all}
use Rattle.m2v_dec_unit.proofs.codes.code_bits.Goals as goal

pub loop-u-init : goal.loop-u-init
loop-u-init c = passed_none c.args.units.now

pub returns-then-value-eq0-clause-value : goal.returns-then-value-eq0-clause-value
returns-then-value-eq0-clause-value c =
    passed_here c.args.units.now c.loop-u.units c.next.new.self c.in-Some.u c.loop-u.bits c.loop-u.invariant c.in-Some.ensures.next (sym c.value.ensures ∙ c.if-value-eq0.true)

pub returns-then-value-eq0-clause-most : goal.returns-then-value-eq0-clause-most
returns-then-value-eq0-clause-most c = omega (arith, c.loop-u.invariant.most, c.left-bits.ensures.value, c.left-bits.ensures.most)

pub overflow_add-bits : goal.overflow_add-bits
overflow_add-bits c =
    let most = c.loop-u.invariant.most in
    record { fits = omega (arith, most, c.left-bits.ensures.value, c.left-bits.ensures.most, c.bits-bits.ensures.most) }

pub loop-u-smaller : goal.loop-u-smaller
loop-u-smaller c = omega (arith, ap length c.in-Some.ensures.next)

pub loop-u-preserved : goal.loop-u-preserved
loop-u-preserved c =
    passed_more c.args.units.now c.loop-u.units c.next.new.self c.in-Some.u c.loop-u.bits _ c.loop-u.invariant c.in-Some.ensures.next (λ e. c.if-value-eq0.false (c.value.ensures ∙ e))
    (ap (λ n. c.loop-u.bits + n) c.bits-bits.ensures.value)

pub returns-in-None-clause-value : goal.returns-in-None-clause-value
returns-in-None-clause-value c = passed_all c.args.units.now c.loop-u.units c.loop-u.bits c.loop-u.invariant c.in-None.ensures.next.0

pub returns-in-None-clause-most : goal.returns-in-None-clause-most
returns-in-None-clause-most c = omega (arith, c.loop-u.invariant.most, c.left-bits.ensures.value, c.left-bits.ensures.most)
