-- The head of what follows units, as it goes along with them.
use Rattle.std.specs.Prelude.{◌≡◌, ◌⊎◌, ℕ, ◌≤◌, Bool, true, false, ◌||◌, not, nat_le, List, [], ◌∷◌, ◌++◌, length}
use Rattle.m2v_model.specs.Units.{Units, joined}
use Rattle.m2v_law_group.specs.Groups.{from_last_sequence}
use Rattle.m2v_law_seam.specs.Spans.{has_matrices, extensions_first, behind_extensions, most_head}
use Rattle.m2v_mend.specs.declared.head.Heads.{Heads}
use Rattle.m2v_mend.specs.Telling.{more_sequences}

-- there are no units
abbrev pub is_empty : Units → Bool
is_empty [] = true
is_empty (u ∷ us) = false

-- a header has too many bytes for a head
abbrev pub is_long : List ℕ → Bool
is_long bytes = not (nat_le (length bytes) most_head)

-- what is known of a sequence header with the units behind it: whether extension units alone stand there, whether it can't
-- be a head, and else its bytes
pub record IsHeader (u : List ℕ) (us : Units) (h : Heads) : Type 0 where
  pub there : h.there ≡ true
  pub follows : h.follows ≡ is_empty (behind_extensions us)
  pub lost : h.lost ≡ (has_matrices (behind_extensions us) || is_long (joined (u ∷ extensions_first us)))
  pub bytes : h.lost ≡ false → h.bytes.items ≡ joined (u ∷ extensions_first us)

-- of units from the last sequence header on
abbrev pub KnowsHeader : Units → Heads → Type 0
KnowsHeader [] h = h.there ≡ false
KnowsHeader (u ∷ us) h = IsHeader u us h

-- what is known behind units of the input
pub record IsHeads (before : Units) (h : Heads) : Type 0 where
  pub known : KnowsHeader (from_last_sequence before) h
  pub most : length h.bytes.items ≤ 4096

-- one sequence header is among units at most, and no quant matrix extension
pub record IsOnce (us : Units) : Type 0 where
  pub once : more_sequences false us ≡ false
  pub none : has_matrices us ≡ false

-- a unit was appended, or with it the header is too long
pub record IsAppended (old : Heads) (u : List ℕ) (new : Heads) : Type 0 where
  pub there : new.there ≡ old.there
  pub follows : new.follows ≡ old.follows
  pub lost : new.lost ≡ (old.lost || is_long (old.bytes.items ++ u))
  pub bytes : new.lost ≡ false → new.bytes.items ≡ old.bytes.items ++ u
  pub most : length old.bytes.items ≤ 4096 → length new.bytes.items ≤ 4096

-- one unit more
abbrev pub IsBehind : Heads → List ℕ → Heads → Type 0
IsBehind old u new = (before : Units) → IsHeads before old → IsHeads (before ++ u ∷ []) new

-- zero bytes are left out behind the last bytes that are kept
abbrev pub IsLeftOut : ℕ → ℕ → ℕ → ℕ → Type 0
IsLeftOut n left zeros behind = ((n ≡ left) × (behind ≡ zeros)) ⊎ ((n ≡ left → ⊥) × (behind ≡ 0))
