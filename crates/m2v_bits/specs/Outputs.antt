-- What an output of bits gains: a writer keeps the bits, a count how many they are.
use Rattle.std.specs.Prelude.{◌≡◌, ℕ, ◌+◌, List, Bool, ◌++◌, length}

-- behind every text that the old output can have taken, the new one can have taken this text more; and it takes less in turn
pub record Gains {O : Type 0} (took : O → List Bool → Type 0) (space : O → ℕ) (old : O) (text : List Bool) (new : O) : Type 0 where
  pub taken : (before : List Bool) → took old before → took new (before ++ text)
  pub less : space new + length text ≡ space old
