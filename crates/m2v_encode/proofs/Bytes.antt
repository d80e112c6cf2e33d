-- What stands in a slice of bytes is bytes.
use Rattle.std.proofs.Common.{ℕ, suc, ◌<◌, List, [], ◌∷◌, get_or}
use Rattle.std.specs.Prelude.{All}
use Rattle.std.proofs.lemmas.List.Elements.{All-nil, All-cons}

pub all_bytes : (xs : List ℕ) → ((i : ℕ) → get_or xs i 0 < 256) → All (λ b. b < 256) xs
all_bytes [] each = All-nil (λ (b : ℕ). b < 256)
all_bytes (x ∷ xs) each = All-cons (λ (b : ℕ). b < 256) x xs (each 0) (all_bytes xs (λ i. each (suc i)))
