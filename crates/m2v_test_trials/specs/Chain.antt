-- The book of the tests: three jobs in a chain, whose values are 0, 1 and 3.
use Rattle.std.specs.Prelude.{ℕ, zero, suc, ◌+◌, ◌<◌, ◌≤◌, List, [], ◌∷◌, All, length}
use Rattle.std.proofs.Common.{lit≤}
use Rattle.std.proofs.Math.Nat.{lt-suc_self}
use Rattle.std.proofs.lemmas.List.Elements.{All-nil, All-push}

-- each job stands on the job before it, where that exists
abbrev pub chain_needs : ℕ → List ℕ
chain_needs zero = []
chain_needs (suc j) = j ∷ []

-- the number of the job, plus the values of its needs
abbrev pub chain_value : ℕ → ℕ
chain_value zero = 0
chain_value (suc j) = suc j + chain_value j

-- the laws of a book
pub chain_below : (j : ℕ) → All (λ i. i < j) (chain_needs j)
chain_below zero = All-nil (λ i. i < zero)
chain_below (suc j) = All-push (λ i. i < suc j) [] j (All-nil (λ i. i < suc j)) (lt-suc_self j)

pub chain_few : (j : ℕ) → length (chain_needs j) ≤ 160
chain_few zero = lit≤ tt
chain_few (suc j) = lit≤ tt
