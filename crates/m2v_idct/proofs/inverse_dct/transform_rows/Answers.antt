use Rattle.std.proofs.Common.{◌≡◌, ℕ, ◌+◌, ◌*◌, ◌/◌, ◌∙◌, ap, arith, get_or, refl, subst, sym, pos, inl, inr}
use Rattle.std.specs.Int.{bit_at}
use Rattle.std.proofs.lemmas.Bool.{cases_eq}
use Rattle.std.proofs.lemmas.Nat.Bits.{bit_at-zero}
use Rattle.m2v_idct.specs.Inverse.{after_rows}
use Rattle.m2v_idct.specs.Ranges.{Within}
use Rattle.m2v_idct.proofs.Passed.{coefficient_within}
use Rattle.m2v_idct.proofs.InPlace.{after_same, low_bit, zero_row}
use Rattle.m2v_idct.proofs.inverse_dct.transform_rows.Goals as goal

pub loop-left-init : goal.loop-left-init
loop-left-init c = record {
  below = omega arith;
  done = λ y x ly lx none.
      zero_row c.args.block.now y
      (λ k lk.
      let e : (8 * y + k) / 8 ≡ y = omega arith in
      c.requires.rows (8 * y + k) (omega arith) (ap (bit_at c.args.rows) e ∙ sym (low_bit c.args.rows y ly) ∙ none))
      x lx;
  rest = λ y x ly lx some. refl;
}

pub transform_row-requires-clause-within : goal.transform_row-requires-clause-within
transform_row-requires-clause-within c k lk =
    let n = c.first_row-y.result in
    let below = c.first_row-y.ensures.below in
    subst (Within 2048) (sym (c.loop-left.invariant.rest n k below lk c.first_row-y.ensures.here)) (coefficient_within _ (c.requires.coefficients (8 * n + k) (pos 0) (omega (arith, below, lk, c.told-block))))

pub loop-left-preserved : goal.loop-left-preserved
loop-left-preserved c =
    let old = c.args.block.now in
    let mid = c.loop-left.block in
    let new = c.transform_row.new.block in
    let n = c.first_row-y.result in
    let before = c.loop-left.invariant in
    let gone = c.without-left.ensures.gone in
    record {
      below = omega (arith, before.below, c.without-left.ensures.less);
      done = λ y x ly lx none. elim (cases_eq y n) [
        | inl same ↦
            subst (λ (j : ℕ). get_or new (8 * j + x) (pos 0) ≡ after_rows old j x) (sym same)
            (c.transform_row.ensures.row x lx ∙ after_same mid old n (λ i li. before.rest n i c.first_row-y.ensures.below li c.first_row-y.ensures.here) x)
        | inr ne ↦
            c.transform_row.ensures.rest (8 * y + x) (λ i li e. ne (omega (arith, e, li, lx)))
            ∙ before.done y x ly lx (sym (c.without-left.ensures.others y ly ne) ∙ none)
      ];
      rest = λ y x ly lx some.
          let ne : y ≡ n → ⊥ = λ same. absurd (omega (arith, sym (ap (bit_at c.without-left.result) same) ∙ some, gone)) in
          c.transform_row.ensures.rest (8 * y + x) (λ i li e. ne (omega (arith, e, li, lx)))
          ∙ before.rest y x ly lx (sym (c.without-left.ensures.others y ly ne) ∙ some);
    }

pub returns : goal.returns
returns c y x ly lx = c.loop-left.invariant.done y x ly lx (ap (λ (n : ℕ). bit_at n y) c.loop-left-test.false ∙ bit_at-zero y)
