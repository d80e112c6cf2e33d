use Rattle.std.proofs.Common.{◌+◌, [], sym, ap, ◌∙◌}
use Rattle.m2v_audit.specs.Others.{others_from}
use Rattle.m2v_audit.proofs.OtherLaws.{others_on, others_end, others_none}
use Rattle.m2v_audit.proofs.Walks.{walked_more, walked_all}
use Rattle.m2v_audit.proofs.others.read_others.Goals as goal

pub returns-then-is_slice : goal.returns-then-is_slice
returns-then-is_slice c = record {
  value =
      walked_all others_from c.args.bit c.loop-u.at c.args.units.now c.loop-u.units _ c.loop-u.others.items c.loop-u.invariant c.in-Some.ensures.next
      (others_end c.loop-u.at c.in-Some.u c.next.new.self (sym c.is_slice.ensures ∙ c.if-is_slice.true));
}

pub loop-u-preserved : goal.loop-u-preserved
loop-u-preserved c =
    walked_more others_from c.args.bit c.loop-u.at _ c.args.units.now c.loop-u.units c.next.new.self c.in-Some.u c.loop-u.others.items c.note.new.others.items _ c.loop-u.invariant c.in-Some.ensures.next
    (others_on c.loop-u.at c.in-Some.u c.next.new.self (sym c.is_slice.ensures ∙ c.if-is_slice.false)) c.in_ok-note.ensures
    (ap (λ n. c.loop-u.at + n) c.bits-at.ensures.value)

pub returns : goal.returns
returns c = record {
  value =
      walked_all others_from c.args.bit c.loop-u.at c.args.units.now c.loop-u.units [] c.loop-u.others.items c.loop-u.invariant c.in_default.ensures.next.0 (others_none c.loop-u.at);
}
