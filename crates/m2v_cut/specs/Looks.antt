-- What is looked at of units.
use Rattle.std.specs.Prelude.{◌≡◌, ℕ, true, false, ◌∷◌, ◌++◌, Option, Some, None, List, if◌then◌else◌}
use Rattle.m2v_model.specs.Units.{Units, unit_bits}
use Rattle.m2v_law_group.specs.Groups.{is_sequence, is_group, has_sequence, from_last_sequence, before_group, from_group, is_coding_extension, structure_of}
use Rattle.m2v_cut.specs.Answers.{or_none}

-- how many bits are left at the last sequence header of units before others, where there is one
abbrev pub IsLastSequence : Option ℕ → Units → Units → Type 0
IsLastSequence None before behind = has_sequence before ≡ false
IsLastSequence (Some left) before behind = (has_sequence before ≡ true) × (left ≡ unit_bits (from_last_sequence before ++ behind))

-- the number of a group among the units behind one, or that this one is its header
abbrev pub IsNumberBehind : Option ℕ → ℕ → List ℕ → Type 0
IsNumberBehind None number u = (number ≡ 0) × (is_group u ≡ true)
IsNumberBehind (Some m) number u =
    (us : Units) → (before_group number (u ∷ us) ≡ u ∷ before_group m us) × (from_group number (u ∷ us) ≡ from_group m us)

-- how many bits are left at the last sequence header behind a unit at which so many are left
abbrev pub last_behind : List ℕ → ℕ → Option ℕ → Option ℕ
last_behind u left found = if is_sequence u then Some left else found

-- the structure of a picture behind which this unit stands
abbrev pub structure_in : Option (List ℕ) → ℕ
structure_in None = 0
structure_in (Some u) = if is_coding_extension u then or_none (structure_of u) else 0
