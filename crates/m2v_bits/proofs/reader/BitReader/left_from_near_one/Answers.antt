use Rattle.std.proofs.Common.{length, sym, ap, ◌∙◌, arith, refl}
use Rattle.std.proofs.lemmas.List.{length-drop}
use Rattle.m2v_bits.specs.Bits.{Unread, first_one, bits}
use Rattle.m2v_bits.proofs.Bits.{one_next, one_here}
use Rattle.m2v_bits.proofs.Cursor.{past_place, behind_no_one}
use Rattle.m2v_bits.proofs.reader.BitReader.left_from_near_one.Goals as goal

pub loop-ahead-init : goal.loop-ahead-init
loop-ahead-init c = rw (c.fork-ahead.ensures, ← c.self.view_is) (refl, omega arith, refl, refl)

pub returns-then-peek-ne0-clause-value : goal.returns-then-peek-ne0-clause-value
returns-then-peek-ne0-clause-value c = c.left-then-peek-ne0.ensures.value ∙ sym (sym c.loop-ahead.invariant.0 ∙ one_here c.loop-ahead.ahead.rest (λ e. c.if-peek-ne0.true (c.peek.ensures.whole (omega arith) ∙ e)))

pub loop-ahead-preserved : goal.loop-ahead-preserved
loop-ahead-preserved c =
    let one = ap (λ (u : Unread). first_one u.rest) c.skip.ensures ∙ sym (one_next c.loop-ahead.ahead.rest (omega arith) (sym (c.peek.ensures.whole (omega arith)) ∙ c.if-peek-ne0.false)) ∙ c.loop-ahead.invariant.0 in (
      one,
      omega (arith, ap (λ (u : Unread). length u.rest) c.skip.ensures, length-drop 1 c.loop-ahead.ahead.rest, c.loop-ahead.invariant.1),
      ap (λ (u : Unread). u.text) c.skip.ensures ∙ c.loop-ahead.invariant.2,
      rw c.skip.ensures (past_place 1 c.loop-ahead.ahead c.loop-ahead.invariant.3),
    )

pub returns-clause-value : goal.returns-clause-value
returns-clause-value c =
    let text = c.loop-ahead.invariant.2 ∙ sym (ap (λ (u : Unread). u.text) c.self.view_is) in
    sym (sym c.loop-ahead.invariant.0 ∙ behind_no_one c.loop-ahead.ahead (bits c.self.inside.bytes.now) c.self.inside.zeros c.loop-ahead.invariant.3 text (omega arith))
