-- Bytes of a source that were read and not looked at yet.
use Rattle.std.specs.Prelude.{◌≡◌, ℕ, List, ◌++◌, Option}
use Rattle.m2v_port.specs.Port.{Moves}

-- what is held grew by bytes that went from the front of what was left
pub record Refilled (held : List ℕ) (left : Option (List ℕ)) (held_then : List ℕ) (left_then : Option (List ℕ)) : Type 0 where
  pub bytes : List ℕ
  pub moved : Moves left bytes left_then
  pub grown : held_then ≡ held ++ bytes
