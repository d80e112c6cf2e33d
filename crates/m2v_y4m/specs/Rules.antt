-- The condition on the numbers of a header that is written, as conditions in order under rule 8.
use Rattle.std.specs.Prelude.{◌≡◌, ◌≤◌, List, [], ◌∷◌, Ok}
use Rattle.m2v_set.specs.Rules.{Condition, at_least, at_most, judged}
use Rattle.m2v_y4m.specs.declared.header.Y4mHeader.{Y4mHeader}

unfoldable pub header_rules : Y4mHeader → List Condition
header_rules h =
    at_least 8 h.width 1
    ∷ at_most 8 h.width 1920
    ∷ at_least 8 h.height 1
    ∷ at_most 8 h.height 1152
    ∷ at_least 8 h.rate_code 1
    ∷ at_most 8 h.rate_code 8
    ∷ []

-- the numbers pass
abbrev pub Passes : Y4mHeader → Type 0
Passes h = judged (header_rules h) ≡ Ok tt

-- the same by bounds
pub record IsHeader (h : Y4mHeader) : Type 0 where
  pub wide : 1 ≤ h.width
  pub width : h.width ≤ 1920
  pub tall : 1 ≤ h.height
  pub height : h.height ≤ 1152
  pub code : 1 ≤ h.rate_code
  pub codes : h.rate_code ≤ 8
