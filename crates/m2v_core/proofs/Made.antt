-- A list that is made element by element, each of those before it.
use Rattle.std.proofs.Common.{◌≡◌, ℕ, zero, suc, ◌<◌, List, [], ◌∷◌, ◌++◌, length, get_or, ap, subst, ◌∙◌, arith, inl, inr}
use Rattle.std.proofs.lemmas.Bool.{cases_lt}
use Rattle.std.proofs.lemmas.List.{length-append, get_or_append_left}
use Rattle.std.proofs.Math.Seq.{get_or-append_seam}

-- the first n are these
pub record AreMade {A : Type 0} (next : List A → A) (made : ℕ → List A) : Type 0 where
  pub none : made 0 ≡ []
  pub more : (n : ℕ) → made (suc n) ≡ made n ++ next (made n) ∷ []

pub made_count : {A : Type 0} {next : List A → A} {made : ℕ → List A} → AreMade next made → (n : ℕ) → length (made n) ≡ n
made_count h zero = ap length h.none
made_count {next = next} {made = made} h (suc n) = omega (arith, ap length (h.more n), length-append (made n) (next (made n) ∷ []), made_count h n)

pub made_is : {A : Type 0} {next : List A → A} {made : ℕ → List A} → AreMade next made → (other : A) (n k : ℕ) → k < n → get_or (made n) k other ≡ next (made k)
made_is h other zero k lt = absurd (omega (arith, lt))
made_is {A = A} {next = next} {made = made} h other (suc n) k lt = ap (λ (xs : List A). get_or xs k other) (h.more n) ∙ elim (cases_lt k n) [
  | inl below ↦ get_or_append_left (made n) (next (made n) ∷ []) other k (omega (arith, below, made_count h n)) ∙ made_is h other n k below
  | inr le ↦
      let e : length (made n) ≡ k = omega (arith, made_count h n, le, lt) in
      let f : n ≡ k = omega (arith, le, lt) in
      subst (λ (i : ℕ). get_or (made n ++ next (made n) ∷ []) i other ≡ next (made k)) e
      (get_or-append_seam (made n) (next (made n)) [] other ∙ ap (λ (i : ℕ). next (made i)) f)
]
