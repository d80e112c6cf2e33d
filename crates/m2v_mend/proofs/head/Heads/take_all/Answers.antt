use Rattle.std.proofs.Common.{◌+◌, ◌-◌, length, refl, sym, subst, List, ℕ, arith}
use Rattle.m2v_dec_unit.specs.Texts.{text_of}
use Rattle.m2v_mend.specs.Editing.{IsWhole}
use Rattle.m2v_mend.proofs.EditLaws.{whole_slice}
use Rattle.m2v_mend.proofs.HeadLaws.{walked_start, walked_whole, walked_least, walked_four, walked_at, walked_over}
use Rattle.m2v_mend.proofs.head.Heads.take_all.Goals as goal

pub loop-at-init : goal.loop-at-init
loop-at-init c = walked_start c.args.zeros c.args.bytes.now c.args.self.now c.requires.units c.requires.ended

pub unit_length-n-requires-clause-units : goal.unit_length-n-requires-clause-units
unit_length-n-requires-clause-units c =
    subst (λ (l : List ℕ). IsWhole (text_of l c.args.zeros)) (sym (whole_slice c.args.bytes.now c.loop-at.at)) (walked_whole _ c.args.zeros c.args.bytes.now c.loop-at.at c.loop-at.met _ _ c.loop-at.invariant c.loop-at-test.true)

pub unit-requires-clause-code : goal.unit-requires-clause-code
unit-requires-clause-code c =
    walked_four _ c.args.zeros c.args.bytes.now c.loop-at.at c.unit_length-n.result c.loop-at.met _ _ _ (whole_slice c.args.bytes.now c.loop-at.at) c.loop-at.invariant c.loop-at-test.true c.unit_length-n.ensures.first c.unit_length-n.ensures.within

pub met_with-met-requires : goal.met_with-met-requires
met_with-met-requires c =
    walked_four _ c.args.zeros c.args.bytes.now c.loop-at.at c.unit_length-n.result c.loop-at.met _ _ _ (whole_slice c.args.bytes.now c.loop-at.at) c.loop-at.invariant c.loop-at-test.true c.unit_length-n.ensures.first c.unit_length-n.ensures.within

pub loop-at-smaller : goal.loop-at-smaller
loop-at-smaller c =
    let least = walked_least _ c.args.zeros c.args.bytes.now c.loop-at.at c.unit_length-n.result c.loop-at.met _ _ _ (whole_slice c.args.bytes.now c.loop-at.at) c.loop-at.invariant c.loop-at-test.true c.unit_length-n.ensures.first in
    omega (arith, least, c.loop-at-test.true)

pub returns-then-is_over : goal.returns-then-is_over
returns-then-is_over c =
    let n = c.unit_length-n.result in
    let at = c.loop-at.at in
    let bytes = c.args.bytes.now in
    let four = walked_four _ c.args.zeros bytes at n c.loop-at.met _ _ _ (whole_slice bytes at) c.loop-at.invariant c.loop-at-test.true c.unit_length-n.ensures.first c.unit_length-n.ensures.within in
    let walked = walked_at _ c.args.zeros bytes at n (at + n - at) (length bytes - at) c.zeros_behind-behind.result c.loop-at.met c.met_with-met.result _ c.args.self.now c.loop-at.self c.unit.new.self (whole_slice bytes at) (omega arith) refl c.loop-at.invariant c.loop-at-test.true
    c.unit_length-n.ensures.first c.zeros_behind-behind.ensures four c.met_with-met.ensures c.in_ok-unit.ensures in
    let over = c.is_over.ensures c.if-is_over.true in
    walked_over _ c.args.zeros bytes (at + n) c.met_with-met.result c.args.self.now c.unit.new.self walked (c.requires.once over.0) over.1 over.2

pub loop-at-preserved : goal.loop-at-preserved
loop-at-preserved c =
    let n = c.unit_length-n.result in
    let at = c.loop-at.at in
    let bytes = c.args.bytes.now in
    let four = walked_four _ c.args.zeros bytes at n c.loop-at.met _ _ _ (whole_slice bytes at) c.loop-at.invariant c.loop-at-test.true c.unit_length-n.ensures.first c.unit_length-n.ensures.within in
    walked_at _ c.args.zeros bytes at n (at + n - at) (length bytes - at) c.zeros_behind-behind.result c.loop-at.met c.met_with-met.result _ c.args.self.now c.loop-at.self c.unit.new.self (whole_slice bytes at) (omega arith) refl c.loop-at.invariant c.loop-at-test.true
    c.unit_length-n.ensures.first c.zeros_behind-behind.ensures four c.met_with-met.ensures c.in_ok-unit.ensures
