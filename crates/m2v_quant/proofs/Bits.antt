-- A number without its lowest bit that is 1.
use Rattle.std.proofs.Common.{◌≡◌, ◌≢◌, ℕ, zero, suc, ◌-◌, ◌/◌, ◌<◌, ◌≤◌, ap, sym, ◌∙◌, arith, inl, inr}
use Rattle.std.specs.Int.{bit_at}
use Rattle.std.specs.Int.Bits.{bit_and}
use Rattle.std.proofs.lemmas.Bool.{cases_lt}
use Rattle.std.proofs.lemmas.Nat.{and_le_r}
use Rattle.std.proofs.lemmas.Nat.Bits.{bit_at-suc, bit_at-zero, bit_at_and}

-- from the lowest bit that is 1 on, a number less 1
before_is : (n t : ℕ) → bit_at n t ≡ 1 → ((i : ℕ) → i < t → bit_at n i ≡ 0) → (p : ℕ) → (p ≡ t → bit_at (n - 1) p ≡ 0) × (t < p → bit_at (n - 1) p ≡ bit_at n p)
before_is n zero one none zero = (λ e. omega (arith, one), λ lt. absurd (omega (arith, lt)))
before_is n zero one none (suc q) =
    let half : (n - 1) / 2 ≡ n / 2 = omega (arith, one) in
    (λ e. absurd (omega (arith, e)), λ lt. bit_at-suc (n - 1) q ∙ ap (λ m. bit_at m q) half ∙ sym (bit_at-suc n q))
before_is n (suc s) one none zero = (λ e. absurd (omega (arith, e)), λ lt. absurd (omega (arith, lt)))
before_is n (suc s) one none (suc q) =
    let even = none 0 (omega arith) in
    let half : (n - 1) / 2 ≡ n / 2 - 1 = omega (arith, even) in
    let rest = before_is (n / 2) s (sym (bit_at-suc n s) ∙ one) (λ i lt. sym (bit_at-suc n i) ∙ none (suc i) (omega (arith, lt))) q in
    let turn = bit_at-suc (n - 1) q ∙ ap (λ m. bit_at m q) half in
    (λ e. turn ∙ rest.0 (omega (arith, e)), λ lt. turn ∙ rest.1 (omega (arith, lt)) ∙ sym (bit_at-suc n q))

some_bit : (n t : ℕ) → bit_at n t ≡ 1 → 0 < n
some_bit zero t one = absurd (omega (arith, one, bit_at-zero t))
some_bit (suc n) t one = omega arith

pub lowest_less : (n t : ℕ) → bit_at n t ≡ 1 → bit_and n (n - 1) < n
lowest_less n t one = omega (arith, some_bit n t one, and_le_r n (n - 1))

pub lowest_others : (n t : ℕ) → bit_at n t ≡ 1 → ((i : ℕ) → i < t → bit_at n i ≡ 0) → (p : ℕ) → p ≢ t → bit_at (bit_and n (n - 1)) p ≡ bit_at n p
lowest_others n t one none p ne = elim (cases_lt p t) [
  | inl before ↦ omega (arith, bit_at_and n (n - 1) p, none p before)
  | inr behind ↦ omega (arith, bit_at_and n (n - 1) p, (before_is n t one none p).1 (above behind ne))
]
  where
    above : {a b : ℕ} → a ≤ b → b ≢ a → a < b
    above le apart = omega (arith, le, apart)
