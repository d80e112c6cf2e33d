-- What a rule answers: nothing where it holds, else what breaks it, which is made of the two numbers that it compares.
use Rattle.std.specs.Prelude.{ℕ, Bool, nat_le, nat_lt, if◌then◌else◌, List, [], ◌∷◌}

-- a condition that holds, or what breaks it
abbrev pub told_unless : {A : Type 0} → Bool → A → List A
told_unless holds breaking = if holds then [] else breaking ∷ []

-- what there is, and what is needed at most
abbrev pub told_above : {A : Type 0} → (ℕ → ℕ → A) → ℕ → ℕ → List A
told_above breaking have need = told_unless (nat_le have need) (breaking have need)

-- from one bound to another: the nearer bound is needed
abbrev pub told_outside : {A : Type 0} → (ℕ → ℕ → A) → ℕ → ℕ → ℕ → List A
told_outside breaking have low high =
    if nat_lt have low then breaking have low ∷ []
    else told_above breaking have high
