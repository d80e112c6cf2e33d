-- Increments, with their escapes and with what the program keeps of them.
use Rattle.std.proofs.Common.{◌≡◌, ℕ, ◌+◌, ◌-◌, ◌^◌, ◌<◌, ◌≤◌, Bool, true, false, List, length, Ok, inl, inr, refl, sym, ap, ◌∙◌, ℤ, pos, neg_ℤ, ◌+ℤ◌, ◌≤ℤ◌, ◌<ℤ◌, arith}
use Rattle.std.specs.Prelude.{int_le, not, ◌||◌}
use Rattle.std.proofs.lemmas.Int.{ints}
use Rattle.std.proofs.lemmas.Bool.{cases_lt, cases_Bool, le-ltb}
use Rattle.m2v_bits.specs.Syntax.{renamed, seq, bind, here, done, rule}
use Rattle.m2v_vlc.specs.declared.values.CodeFault.TheVariants as codes
use Rattle.m2v_vlc.specs.declared.values.Increment.{Increment}
use Rattle.m2v_vlc.specs.declared.values.Increment.TheVariants.{Step, Escape}
use Rattle.m2v_vlc.specs.Codes.{code_at}
use Rattle.m2v_vlc.specs.Tables.{increment}
use Rattle.m2v_macro.specs.declared.values.SliceState.{SliceState}
use Rattle.m2v_macro.specs.declared.values.PictureContext.{PictureContext}
use Rattle.m2v_macro.specs.States.{column, not_past, in_order}
use Rattle.m2v_macro.specs.Macros.{added, round_at, increment_from, allowed_at, step_at}
use Rattle.m2v_macro.specs.Reading.{kept}

pub round_step : (sum n : ℕ) (code : Increment) (t rest : List Bool) → (code_at codes.Truncated codes.NoCode increment).read t ≡ Ok (code, rest) → code ≡ Step n → (round_at sum).read t ≡ Ok ((false, sum + n), rest)
unfolding round_at added seq bind renamed done
round_step sum n code t rest e is = rw (e, is) refl

pub round_escape : (sum : ℕ) (code : Increment) (t rest : List Bool) → (code_at codes.Truncated codes.NoCode increment).read t ≡ Ok (code, rest) → code ≡ Escape → (round_at sum).read t ≡ Ok ((true, sum + 33), rest)
unfolding round_at added seq bind renamed done
round_escape sum code t rest e is = rw (e, is) refl

-- ---- sums that are kept

le_false : (a b : ℤ) → b <ℤ a → int_le a b ≡ false
le_false a b h = grind (arith, ints)

far_past : (st : SliceState) (n : ℕ) → neg_ℤ (pos 1) ≤ℤ st.address → st.next ≤ 2 ^ 16 → 2 ^ 20 ≤ n → not_past st n ≡ not st.first || false
unfolding not_past
far_past st n low next far = ap (λ (b : Bool). not st.first || b) (le_false (st.address +ℤ pos n) (pos st.next) (omega (arith, ints)))

far_column : (c : PictureContext) (st : SliceState) (n : ℕ) → c.columns ≤ 120 → 2 ^ 20 ≤ n → c.columns ≤ column c st n
unfolding column
far_column c st n most far = elim (cases_Bool st.first) [ inl e ↦ rw e (omega arith) | inr e ↦ rw e (omega arith) ]

far_order : (c : PictureContext) (st : SliceState) (n : ℕ) → c.columns ≤ 120 → 2 ^ 20 ≤ n → in_order c st n ≡ false
unfolding in_order
far_order c st n most far = rw (le-ltb (column c st n) c.columns (far_column c st n most far)) refl

far_same : (c : PictureContext) (st : SliceState) (start n v : ℕ) (t : List Bool) → not_past st v ≡ not_past st n → in_order c st v ≡ false → in_order c st n ≡ false
    → (allowed_at c st start v).read t ≡ (allowed_at c st start n).read t
unfolding allowed_at seq bind rule
far_same c st start n v t past e f = elim (cases_Bool (not_past st n)) [
  | inl g ↦ rw (past, e, f, g) refl
  | inr g ↦ rw (past, e, f, g) refl
]

-- what is kept of an increment is judged as the increment is
pub allowed_kept : (c : PictureContext) (st : SliceState) (start n v : ℕ) (t : List Bool) → v ≡ kept n → c.columns ≤ 120 → neg_ℤ (pos 1) ≤ℤ st.address → st.next ≤ 2 ^ 16
    → (allowed_at c st start v).read t ≡ (allowed_at c st start n).read t
allowed_kept c st start n v t e most low next = elim (cases_lt n (2 ^ 32 - 1)) [
  | inl small ↦ let same : v ≡ n = omega (arith, e) in rw same refl
  | inr far ↦
      let v_far : 2 ^ 20 ≤ v = omega (arith, e) in
      let n_far : 2 ^ 20 ≤ n = omega arith in
      far_same c st start n v t (far_past st v low next v_far ∙ sym (far_past st n low next n_far)) (far_order c st v most v_far) (far_order c st n most n_far)
]

-- an increment that may stand here is below 2 ^ 20
pub order_small : (c : PictureContext) (st : SliceState) (n : ℕ) → c.columns ≤ 120 → in_order c st n ≡ true → n < 2 ^ 20
order_small c st n most e = elim (cases_lt n (2 ^ 20)) [ inl small ↦ small | inr far ↦ absurd (let f = far_order c st n most far in cc) ]

pub step_is : (c : PictureContext) (st : SliceState) (n : ℕ) (t mid : List Bool) → (increment_from 0).read t ≡ Ok (n, mid) → (step_at c st).read t ≡ (allowed_at c st (length t) n).read mid
unfolding step_at seq bind here
step_is c st n t mid e = rw e refl
