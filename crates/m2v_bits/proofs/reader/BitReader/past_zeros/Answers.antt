use Rattle.std.proofs.Common.{length, sym, ap, ◌∙◌, arith, refl}
use Rattle.std.proofs.lemmas.List.{length-drop}
use Rattle.m2v_bits.specs.Bits.{Unread, all_zero, first_one, bits}
use Rattle.m2v_bits.proofs.Bits.{zero_front, zero_not, one_front}
use Rattle.m2v_bits.proofs.Cursor.{past_place, behind_zero}
use Rattle.m2v_bits.proofs.reader.BitReader.past_zeros.Goals as goal

pub loop-self-init : goal.loop-self-init
loop-self-init c = rw (c.fork-ahead.ensures, ← c.self.view_is) (record { one = refl; within = omega arith; text = refl; zero = refl; place = refl })

pub loop-self-preserved : goal.loop-self-preserved
loop-self-preserved c =
    let none = sym (c.peek.ensures.whole (omega arith)) ∙ c.if-peek-ne0.false in
    let n = c.min-n.result in
    let rest = c.loop-self.ahead.rest in
    record {
      one = ap (λ (u : Unread). first_one u.rest) c.skip.ensures ∙ sym (one_front n rest (omega arith) none) ∙ c.loop-self.invariant.one;
      within = omega (arith, ap (λ (u : Unread). length u.rest) c.skip.ensures, length-drop n rest, c.loop-self.invariant.within);
      text = ap (λ (u : Unread). u.text) c.skip.ensures ∙ c.loop-self.invariant.text;
      zero = ap (λ (u : Unread). all_zero u.rest) c.skip.ensures ∙ sym (zero_front n rest (omega arith) none) ∙ c.loop-self.invariant.zero;
      place = rw c.skip.ensures (past_place n c.loop-self.ahead c.loop-self.invariant.place);
    }

pub returns-then-peek-ne0-clause-found : goal.returns-then-peek-ne0-clause-found
returns-then-peek-ne0-clause-found c = sym c.loop-self.invariant.zero ∙ zero_not c.min-n.result c.loop-self.ahead.rest (λ e. c.if-peek-ne0.true (c.peek.ensures.whole (omega arith) ∙ e))

pub returns-clause-found : goal.returns-clause-found
returns-clause-found c =
    let text = c.loop-self.invariant.text ∙ sym (ap (λ (u : Unread). u.text) c.self.view_is) in
    sym c.loop-self.invariant.zero ∙ behind_zero c.loop-self.ahead (bits c.self.inside.bytes.now) c.self.inside.zeros c.loop-self.invariant.place text (omega arith)
