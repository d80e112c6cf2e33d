use Rattle.std.proofs.Common.{◌<◌, length, sym, ◌∙◌, arith}
use Rattle.std.proofs.lemmas.Bool.{eqb-true}
use Rattle.std.proofs.lemmas.Bool.Decides.{nat_tests}
use Rattle.m2v_dec_unit.proofs.Cuts.{none_left, goes_on, ends}
use Rattle.m2v_dec_unit.proofs.reader.UnitReader.next.Goals as goal

pub returns-then-is_empty-clause-next : goal.returns-then-is_empty-clause-next
returns-then-is_empty-clause-next c =
    let none = eqb-true (length c.self.inside.bytes.now) 0 (sym c.is_empty.ensures ∙ c.if-is_empty.true) in
    let e = sym c.self.view_is ∙ none_left c.self.inside.bytes.now c.self.inside.zeros c.self.invariant.1 (omega arith) in
    (e, e)

pub returns-then-is_empty-2-clause-next : goal.returns-then-is_empty-2-clause-next
returns-then-is_empty-2-clause-next c =
    let e = sym c.is_empty.ensures ∙ c.if-is_empty.false in
    let some : 0 < length c.self.inside.bytes.now = grind (arith, nat_tests) in
    let none = eqb-true (length c.split_at.result.1.now) 0 (sym c.is_empty-2.ensures ∙ c.if-is_empty-2.true) in
    sym c.self.view_is ∙ ends c.self.inside.bytes.now c.split_at.result.0.now c.split_at.result.1.now c.new.result c.self.inside.zeros c.next_unit-end.result c.self.invariant.1 c.self.invariant.2 c.next_unit-end.ensures some c.split_at.ensures.front c.split_at.ensures.back c.new.ensures (omega arith)

pub returns-clause-next : goal.returns-clause-next
returns-clause-next c =
    let e = sym c.is_empty-2.ensures ∙ c.if-is_empty-2.false in
    let some : 0 < length c.split_at.result.1.now = grind (arith, nat_tests) in
    sym c.self.view_is ∙ goes_on c.self.inside.bytes.now c.split_at.result.0.now c.split_at.result.1.now c.new-2.result c.self.inside.zeros c.next_unit-end.result c.self.invariant.1 c.self.invariant.2 c.next_unit-end.ensures c.split_at.ensures.front c.split_at.ensures.back c.new-2.ensures some
