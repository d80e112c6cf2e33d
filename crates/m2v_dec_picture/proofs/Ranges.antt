-- Tests of all numbers below one.
use Rattle.std.proofs.Common.{◌≡◌, ℕ, zero, suc, ◌+◌, ◌<◌, Bool, true, false, refl, sym, ◌∙◌, subst, arith, inl, inr}
use Rattle.std.specs.List.{list_all, range_with_len}
use Rattle.std.proofs.lemmas.Bool.{cases_Bool}
use Rattle.std.proofs.lemmas.List.FromFn.{length-range_with_len, get_or-range_with_len}
use Rattle.std.proofs.lemmas.List.Folds.{list_all_at}

from_each : (f : ℕ → Bool) (a n : ℕ) → ((k : ℕ) → k < n → f (a + k) ≡ true) → list_all f (range_with_len a n) ≡ true
from_each f a zero all = refl
from_each f a (suc n) all =
    let z : a + 0 ≡ a = omega arith in
    let first : f a ≡ true = subst (λ (m : ℕ). f m ≡ true) z (all 0 (omega arith)) in
    let rest = from_each f (a + 1) n (λ k lt. let e : a + (k + 1) ≡ a + 1 + k = omega arith in subst (λ (m : ℕ). f m ≡ true) e (all (k + 1) (omega (arith, lt)))) in
    rw first rest

pub all_below : (f : ℕ → Bool) (n : ℕ) → ((k : ℕ) → k < n → f k ≡ true) → list_all f (range_with_len 0 n) ≡ true
all_below f n all = from_each f 0 n (λ k lt. let e : k ≡ 0 + k = omega arith in subst (λ (m : ℕ). f m ≡ true) e (all k lt))

pub not_below : (f : ℕ → Bool) (n k : ℕ) → k < n → f k ≡ false → list_all f (range_with_len 0 n) ≡ false
not_below f n k lt e =
    list_all_at f (range_with_len 0 n) k 0 (subst (λ (m : ℕ). k < m) (sym (length-range_with_len 0 n)) lt)
    (let z : 0 + k ≡ k = omega arith in subst (λ (m : ℕ). f m ≡ false) (sym (get_or-range_with_len 0 n k 0 lt ∙ z)) e)

false-true : false ≡ true → ⊥
false-true e = cc

pub each_below : (f : ℕ → Bool) (n k : ℕ) → list_all f (range_with_len 0 n) ≡ true → k < n → f k ≡ true
each_below f n k all lt = elim (cases_Bool (f k)) [
  | inl e ↦ e
  | inr e ↦ absurd (false-true (sym (not_below f n k lt e) ∙ all))
]
