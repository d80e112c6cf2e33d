-- A file of the system.
use Rattle.std.specs.Prelude.{ℕ, Bool}

-- whether the file is open, and how often a call failed
pub record Opened : Type 0 where
  pub ready : Bool
  pub faults : ℕ
