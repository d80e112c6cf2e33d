-- Values made one after another, each of those before it.
use Rattle.std.specs.Prelude.{ℕ, zero, suc, List, [], ◌∷◌, ◌++◌}

-- the first so many of them, in order
unfoldable pub earlier : {A : Type 0} → (List A → A) → ℕ → List A
earlier next zero = []
earlier next (suc n) = earlier next n ++ next (earlier next n) ∷ []
