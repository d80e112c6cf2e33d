-- A worked input of two texts, of which each has a fault: its sequence header is cut off. The first one ends by an end code.
use Rattle.std.specs.Prelude.{ℕ, List, [], ◌∷◌}

unfoldable pub two_broken : List ℕ
two_broken = 0x00 ∷ 0x00 ∷ 0x01 ∷ 0xB3 ∷ 0x00 ∷ 0x00 ∷ 0x01 ∷ 0xB7 ∷ 0x09 ∷ 0x00 ∷ 0x00 ∷ 0x01 ∷ 0xB3 ∷ []
