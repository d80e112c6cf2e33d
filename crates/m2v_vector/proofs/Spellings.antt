-- Codes and residuals of differences.
use Rattle.std.proofs.Common.{◌≡◌, ℕ, zero, suc, ◌+◌, ◌-◌, ◌*◌, ◌/◌, ◌%◌, ◌<◌, ◌≤◌, false, ℤ, pos, negsuc, neg_ℤ, ◌⊎◌, inl, inr, arith, refl, ap, sym, ◌∙◌}
use Rattle.std.specs.Prelude.{nat_eq, unsigned_abs}
use Rattle.std.proofs.lemmas.Int.{ints}
use Rattle.std.proofs.lemmas.Bool.{cases_Bool, eqb-true, eqb-false, ne_eqb}
use Rattle.std.proofs.lemmas.Nat.{div-mul-add, div-add-mod'}
use Rattle.std.proofs.Math.Nat.{mul-le-mul_right, mod-lt, mod-eq_of_lt, div-lt_iff_lt-mul}
use Rattle.m2v_vector.specs.Vectors.{IsDifference, IsSpelling, with_sign, difference, code_of, residual_of, joined}
use Rattle.m2v_vector.proofs.Wrapping.{same_or_edges}

-- the difference of a code, by its size less 1
pub of_none : (f residual : ℕ) → difference f (pos 0) residual ≡ pos 0
unfolding difference
of_none f residual = elim (cases_Bool (nat_eq f 1)) [ inl e ↦ rw e refl | inr e ↦ rw e refl ]

of_some : (f n residual : ℕ) (code : ℤ) → residual < f → unsigned_abs code ≡ suc n → code ≡ with_sign code (suc n) → difference f code residual ≡ with_sign code (suc (n * f + residual))
unfolding difference
of_some f n residual code below size own =
    let some : nat_eq (suc n) 0 ≡ false = ne_eqb (suc n) 0 (λ e. omega arith) in
    let less : suc n - 1 ≡ n = omega arith in
    let sum : n * f + residual + 1 ≡ suc (n * f + residual) = omega arith in
    elim (cases_Bool (nat_eq f 1)) [
      | inl e ↦ let one : f ≡ 1 = eqb-true f 1 e in let none : residual ≡ 0 = omega arith in let all : suc n ≡ suc (n * f + residual) = rw (one, none) (omega arith) in rw e (own ∙ ap (with_sign code) all)
      | inr e ↦ rw (e, size, some, less, sum) refl
    ]

pub of_positive : (f n residual : ℕ) → residual < f → difference f (pos (suc n)) residual ≡ pos (suc (n * f + residual))
unfolding with_sign
of_positive f n residual below = of_some f n residual (pos (suc n)) below refl refl

pub of_negative : (f n residual : ℕ) → residual < f → difference f (negsuc n) residual ≡ negsuc (n * f + residual)
unfolding with_sign
of_negative f n residual below = of_some f n residual (negsuc n) below refl refl

-- ---- splitting

quotient_below : (f n : ℕ) → 0 < f → n < 16 * f → n / f < 16
quotient_below f n some lt = (div-lt_iff_lt-mul {k = f} {x = n} {y = 16} some).1 (omega arith)

pub split_spelling : (f size : ℕ) (delta code : ℤ) → 0 < f → IsDifference f delta → size ≡ unsigned_abs delta → (size ≡ 0 → ⊥) → code ≡ with_sign delta ((size - 1) / f + 1)
    → IsSpelling f code ((size - 1) % f)
unfolding with_sign
split_spelling f size (pos zero) code some h e ne is = absurd (ne e)
split_spelling f size (pos (suc n)) code some h e ne is =
    let less : size - 1 ≡ n = omega arith in
    let small : n / f < 16 = quotient_below f n some (omega (arith, ints, h.1)) in
    let same : code ≡ pos (n / f + 1) = rw less at is in
    record { low = omega (arith, ints); high = omega (arith, ints); below = mod-lt (size - 1) some; none = λ z. absurd (omega (arith, ints)) }
split_spelling f size (negsuc n) code some h e ne is =
    let less : size - 1 ≡ n = omega arith in
    let small : n / f < 16 = quotient_below f n some (omega (arith, ints, h.0)) in
    let same : code ≡ neg_ℤ (pos (n / f + 1)) = rw less at is in
    record { low = omega (arith, ints); high = omega (arith, ints); below = mod-lt (size - 1) some; none = λ z. absurd (omega (arith, ints)) }

pub split_value : (f size : ℕ) (delta code : ℤ) → 0 < f → size ≡ unsigned_abs delta → (size ≡ 0 → ⊥) → code ≡ with_sign delta ((size - 1) / f + 1)
    → difference f code ((size - 1) % f) ≡ delta
unfolding with_sign
split_value f size (pos zero) code some e ne is = absurd (ne e)
split_value f size (pos (suc n)) code some e ne is =
    let less : size - 1 ≡ n = omega arith in
    let same : code ≡ pos (suc (n / f)) = rw less at is ∙ ap pos (omega arith) in
    rw (less, same, of_positive f (n / f) (n % f) (mod-lt n some)) (omega (arith, ints, div-add-mod' n f))
split_value f size (negsuc n) code some e ne is =
    let less : size - 1 ≡ n = omega arith in
    let same : code ≡ negsuc (n / f) = rw less at is ∙ omega (arith, ints) in
    rw (less, same, of_negative f (n / f) (n % f) (mod-lt n some)) (omega (arith, ints, div-add-mod' n f))

-- ---- one difference has one spelling

quotient : (f n m r s : ℕ) → r < f → s < f → n * f + r ≡ m * f + s → (n ≡ m) × (r ≡ s)
quotient f n m r s hr hs e =
    let same : n ≡ m = sym (div-mul-add n f r hr) ∙ ap (λ (x : ℕ). x / f) e ∙ div-mul-add m f s hs in
    let times : n * f ≡ m * f = ap (λ (x : ℕ). x * f) same in
    (same, omega (arith, e, times))

within_difference : (f : ℕ) (code : ℤ) (residual : ℕ) → IsSpelling f code residual → IsDifference f (difference f code residual)
within_difference f (pos zero) residual h = rw (of_none f residual) (omega (arith, ints), omega (arith, ints))
within_difference f (pos (suc n)) residual h =
    let below = h.below in
    let small : n ≤ 15 = omega (arith, ints, h.high) in
    let most : n * f ≤ 15 * f = mul-le-mul_right f small in
    rw (of_positive f n residual below) (omega (arith, ints, most), omega (arith, ints, most))
within_difference f (negsuc n) residual h =
    let below = h.below in
    let small : n ≤ 15 = omega (arith, ints, h.low) in
    let most : n * f ≤ 15 * f = mul-le-mul_right f small in
    rw (of_negative f n residual below) (omega (arith, ints, most), omega (arith, ints, most))

one_spelling : (f : ℕ) (code other : ℤ) (residual more : ℕ) → IsSpelling f code residual → IsSpelling f other more
    → difference f code residual ≡ difference f other more → (code ≡ other) × (residual ≡ more)
one_spelling f (pos zero) (pos zero) residual more p q e = (refl, p.none refl ∙ sym (q.none refl))
one_spelling f (pos zero) (pos (suc m)) residual more p q e = absurd (omega (arith, ints, sym (of_none f residual) ∙ e ∙ of_positive f m more q.below))
one_spelling f (pos zero) (negsuc m) residual more p q e = absurd (omega (arith, ints, sym (of_none f residual) ∙ e ∙ of_negative f m more q.below))
one_spelling f (pos (suc n)) (pos zero) residual more p q e = absurd (omega (arith, ints, sym (of_positive f n residual p.below) ∙ e ∙ of_none f more))
one_spelling f (pos (suc n)) (pos (suc m)) residual more p q e =
    let s = quotient f n m residual more p.below q.below (omega (arith, ints, sym (of_positive f n residual p.below) ∙ e ∙ of_positive f m more q.below)) in
    (ap (λ (x : ℕ). pos (suc x)) s.0, s.1)
one_spelling f (pos (suc n)) (negsuc m) residual more p q e = absurd (omega (arith, ints, sym (of_positive f n residual p.below) ∙ e ∙ of_negative f m more q.below))
one_spelling f (negsuc n) (pos zero) residual more p q e = absurd (omega (arith, ints, sym (of_negative f n residual p.below) ∙ e ∙ of_none f more))
one_spelling f (negsuc n) (pos (suc m)) residual more p q e = absurd (omega (arith, ints, sym (of_negative f n residual p.below) ∙ e ∙ of_positive f m more q.below))
one_spelling f (negsuc n) (negsuc m) residual more p q e =
    let s = quotient f n m residual more p.below q.below (omega (arith, ints, sym (of_negative f n residual p.below) ∙ e ∙ of_negative f m more q.below)) in
    (ap (λ (x : ℕ). negsuc x) s.0, s.1)

pub two_spellings : (f : ℕ) (predictor code other : ℤ) (residual more : ℕ) → IsSpelling f code residual → IsSpelling f other more
    → joined f predictor code residual ≡ joined f predictor other more
    → ((code ≡ other) × (residual ≡ more))
    ⊎ ((difference f code residual ≡ pos (16 * f)) × (difference f other more ≡ neg_ℤ (pos (16 * f))))
    ⊎ ((difference f code residual ≡ neg_ℤ (pos (16 * f))) × (difference f other more ≡ pos (16 * f)))
unfolding joined
two_spellings f predictor code other residual more p q e =
    elim (same_or_edges f predictor (difference f code residual) (difference f other more) (omega (arith, p.below)) (within_difference f code residual p) (within_difference f other more q) e) [
      | inl same ↦ inl (one_spelling f code other residual more p q same)
      | inr edges ↦ inr edges
    ]

-- ---- the spelling of a difference

-- the code of a difference and its residual are a spelling
pub spelling_of : (f : ℕ) (d : ℤ) → 0 < f → IsDifference f d → IsSpelling f (code_of f d) (residual_of f d)
unfolding code_of residual_of
spelling_of f d some h = elim (cases_Bool (nat_eq (unsigned_abs d) 0)) [
  | inl e ↦ let none : unsigned_abs d ≡ 0 = eqb-true (unsigned_abs d) 0 e in let small : 0 - 1 ≡ 0 = omega arith in rw (e, none, small, mod-eq_of_lt some) (record { low = omega (arith, ints); high = omega (arith, ints); below = some; none = λ z. refl })
  | inr e ↦ rw e (split_spelling f (unsigned_abs d) d _ some h refl (eqb-false (unsigned_abs d) 0 e) refl)
]

-- and mean it
pub difference_of : (f : ℕ) (d : ℤ) → 0 < f → difference f (code_of f d) (residual_of f d) ≡ d
unfolding code_of residual_of
difference_of f d some = elim (cases_Bool (nat_eq (unsigned_abs d) 0)) [
  | inl e ↦ rw e (of_none f _ ∙ nothing d (eqb-true (unsigned_abs d) 0 e))
  | inr e ↦ rw e (split_value f (unsigned_abs d) d _ some refl (eqb-false (unsigned_abs d) 0 e) refl)
]
  where
    nothing : (z : ℤ) → unsigned_abs z ≡ 0 → pos 0 ≡ z
    nothing z h = omega (arith, ints, h)
