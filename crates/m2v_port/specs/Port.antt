-- What the calls of an endpoint do to the bytes that it tells and to its count of faults.
use Rattle.std.specs.Prelude.{◌≡◌, ◌⊎◌, ℕ, ◌-◌, ◌^◌, ◌<◌, ◌≤◌, List, [], ◌++◌, length, IfSome, Option}
use Rattle.std.specs.Option.{option_map}

-- The count rose: it is greater than it was, or at the last value of a real endpoint's counter.
abbrev pub Rose : ℕ → ℕ → Type 0
Rose before now = (before < now) ⊎ (2 ^ 64 - 1 ≤ now)

-- These bytes went from the front of what was left, where that is told.
pub record Moves (old : Option (List ℕ)) (bytes : List ℕ) (new : Option (List ℕ)) : Type 0 where
  pub was : old ≡ option_map (λ rest. bytes ++ rest) new

-- Fewer than so many bytes went from the front of what was left, where that is told.
pub record MovesFewer (old : Option (List ℕ)) (bound : ℕ) (new : Option (List ℕ)) : Type 0 where
  pub part : List ℕ
  pub fewer : length part < bound
  pub moved : Moves old part new

-- No byte is left, where that is told.
abbrev pub IsAtEnd : Option (List ℕ) → Type 0
IsAtEnd left = IfSome left (λ bytes. bytes ≡ [])

-- What is held grew by these bytes, where it is told.
pub record Grows (old : Option (List ℕ)) (bytes : List ℕ) (new : Option (List ℕ)) : Type 0 where
  pub is : new ≡ option_map (λ held. held ++ bytes) old

-- What is held grew by some of these bytes, from the first on.
pub record GrowsByPrefix (old : Option (List ℕ)) (bytes : List ℕ) (new : Option (List ℕ)) : Type 0 where
  pub part : List ℕ
  pub rest : List ℕ
  pub split : bytes ≡ part ++ rest
  pub grown : Grows old part new
