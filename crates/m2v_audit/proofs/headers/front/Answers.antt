use Rattle.std.proofs.Common.{◌+◌, [], sym, ap, ◌∙◌}
use Rattle.m2v_audit.specs.Front.{headers_from}
use Rattle.m2v_audit.proofs.Placed.{headers_on, headers_end, headers_none}
use Rattle.m2v_audit.proofs.Walks.{walked_more, walked_all}
use Rattle.m2v_audit.proofs.headers.front.Goals as goal

pub returns-then-value-eq0 : goal.returns-then-value-eq0
returns-then-value-eq0 c = record {
  value =
      walked_all headers_from c.args.bit c.loop-u.at c.args.units.now c.loop-u.units _ c.loop-u.headers.items c.loop-u.invariant c.in-Some.ensures.next
      (headers_end c.loop-u.at c.in-Some.u c.next.new.self (sym c.value.ensures ∙ c.if-value-eq0.true));
}

pub loop-u-preserved : goal.loop-u-preserved
loop-u-preserved c =
    walked_more headers_from c.args.bit c.loop-u.at _ c.args.units.now c.loop-u.units c.next.new.self c.in-Some.u c.loop-u.headers.items c.note.new.headers.items _ c.loop-u.invariant c.in-Some.ensures.next
    (headers_on c.loop-u.at c.in-Some.u c.next.new.self (λ e. c.if-value-eq0.false (c.value.ensures ∙ e))) c.in_ok-note.ensures
    (ap (λ n. c.loop-u.at + n) c.bits-at.ensures.value)

pub returns : goal.returns
returns c = record {
  value =
      walked_all headers_from c.args.bit c.loop-u.at c.args.units.now c.loop-u.units [] c.loop-u.headers.items c.loop-u.invariant c.in_default.ensures.next.0 (headers_none c.loop-u.at);
}
