-- A book of the tests: two jobs that stand on none, and one that stands on the first of them.
use Rattle.std.specs.Prelude.{ℕ, zero, suc, ◌+◌, ◌*◌, ◌<◌, ◌≤◌, List, [], ◌∷◌, All, length}
use Rattle.std.proofs.Common.{lit≤}
use Rattle.std.proofs.Math.Nat.{zero-lt-suc}
use Rattle.std.proofs.lemmas.List.Elements.{All-nil, All-push}

abbrev pub pair_needs : ℕ → List ℕ
pair_needs zero = []
pair_needs (suc zero) = []
pair_needs (suc (suc j)) = 0 ∷ []

abbrev pub pair_value : ℕ → ℕ
pair_value j = 3 * j + 5

-- the laws of a book
pub pair_below : (j : ℕ) → All (λ i. i < j) (pair_needs j)
pair_below zero = All-nil (λ i. i < zero)
pair_below (suc zero) = All-nil (λ i. i < suc zero)
pair_below (suc (suc j)) = All-push (λ i. i < suc (suc j)) [] 0 (All-nil (λ i. i < suc (suc j))) (zero-lt-suc (suc j))

pub pair_few : (j : ℕ) → length (pair_needs j) ≤ 160
pair_few zero = lit≤ tt
pair_few (suc zero) = lit≤ tt
pair_few (suc (suc j)) = lit≤ tt
