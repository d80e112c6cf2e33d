-- The most that is held, as pictures come and as what they hold gets known.
use Rattle.std.proofs.Common.{◌≡◌, ℕ, ◌-◌, ◌*◌, ◌≤◌, List, [], ◌∷◌, ◌++◌, refl, sym, ap, ◌∙◌, arith, drop}
use Rattle.std.specs.Prelude.{max, min}
use Rattle.m2v_check.specs.declared.amounts.Amount.{Amount}
use Rattle.m2v_check.specs.Holding.{cut_at, most_with, IsFirst}

pub one_more : (t most : ℕ) (xs : List Amount) (a : Amount) → most_with t most (xs ++ a ∷ []) ≡ max (most_with t most xs) (cut_at t a)
one_more t most [] a = refl
one_more t most (x ∷ xs) a = one_more t (max most (cut_at t x)) xs a

known_stays : (total t held removed : ℕ) → min held (1800 * (total - removed)) ≡ held → total ≤ t → min held (1800 * (t - removed)) ≡ held
known_stays total t held removed e le = omega arith

pub settled : (total t most : ℕ) (a : Amount) (xs ys : List Amount) → IsFirst a xs → ys ≡ drop 1 xs → cut_at total a ≡ a.held → total ≤ t → most_with t (max most a.held) ys ≡ most_with t most xs
settled total t most a [] ys f e k le = absurd f
settled total t most a (x ∷ xs) ys f e k le =
    ap (most_with t (max most a.held)) e
    ∙ ap (λ (h : ℕ). most_with t (max most h) xs) (sym (known_stays total t a.held a.removed k le))
    ∙ ap (λ (b : Amount). most_with t (max most (cut_at t b)) xs) (sym f)
