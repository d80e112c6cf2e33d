-- The predictors of vectors, and what a macroblock leaves of them (clauses 7.6.3.2 to 7.6.3.4, tables 7-9 and 7-10).
use Rattle.std.specs.Prelude.{ℕ, ◌^◌, Bool, ◌&&◌, ◌||◌, not, nat_eq, cond, if◌then◌else◌, List, [], ◌∷◌, slice_index_or, ℤ, pos, neg_ℤ, ◌*ℤ◌, ◌≤ℤ◌}
use Rattle.m2v_vector.specs.declared.predictors.Pmv.{Pmv}
use Rattle.m2v_vector.specs.declared.predictors.Motion.{Motion}

-- the two numbers of an entry and a direction, of vectors or predictors
abbrev pub pair_of : List (List (List ℤ)) → ℕ → ℕ → List ℤ
pair_of at entry direction = slice_index_or (slice_index_or at entry []) direction []

-- one of them
abbrev pub number_of : List (List (List ℤ)) → ℕ → ℕ → ℕ → ℤ
number_of at entry direction component = slice_index_or (pair_of at entry direction) component (pos 0)

abbrev pub zeros : List ℤ
zeros = pos 0 ∷ pos 0 ∷ []

-- all predictors 0, as at the start of a slice
abbrev pub zero : Pmv
zero = record { at = (zeros ∷ zeros ∷ []) ∷ (zeros ∷ zeros ∷ []) ∷ [] }

-- all predictors become 0: at an intra macroblock without concealment vectors, and in a P picture at a macroblock
-- without forward motion, a skipped one among them
unfoldable pub resets : Motion → Bool
resets m = if m.intra then not m.concealment else nat_eq m.kind 2 && not m.forward

-- the macroblock has vectors of the direction; concealment vectors are forward ones
unfoldable pub has_vectors : Motion → ℕ → Bool
has_vectors m direction =
    if nat_eq direction 0 then m.forward || (m.intra && m.concealment) else m.backward

-- a direction has two vectors: field prediction in a frame picture, and 16x8
unfoldable pub has_two : Bool → ℕ → Bool
has_two field_picture form = nat_eq form (cond field_picture 2 1)

-- the vectors are those of fields in a frame picture: field prediction there, and dual prime
unfoldable pub is_halved : Bool → ℕ → Bool
is_halved field_picture form = not field_picture && (nat_eq form 1 || nat_eq form 3)

-- the entry that a vector leaves: a field vector in a frame picture counts twice vertically
unfoldable pub left_by : Bool → List ℤ → List ℤ
left_by halved v = slice_index_or v 0 (pos 0) ∷ cond halved (pos 2 *ℤ slice_index_or v 1 (pos 0)) (slice_index_or v 1 (pos 0)) ∷ []

-- an entry and a direction behind a macroblock; where there is one vector, both entries come of it
unfoldable pub entry_after : Motion → Pmv → ℕ → ℕ → List ℤ
entry_after m p entry direction =
    if has_vectors m direction then
    left_by (is_halved m.field_picture m.form) (pair_of m.vectors (cond (has_two m.field_picture m.form) entry 0) direction)
    else pair_of p.at entry direction

-- the predictors after a macroblock
unfoldable pub predictors_after : Motion → Pmv → Pmv
predictors_after m p =
    if resets m then zero
    else record {
      at =
          (entry_after m p 0 0 ∷ entry_after m p 0 1 ∷ [])
          ∷ (entry_after m p 1 0 ∷ entry_after m p 1 1 ∷ []) ∷ [];
    }

-- each number of vectors has a size of at most 2 ^ 16
abbrev pub AreSmall : List (List (List ℤ)) → Type 0
AreSmall at = (entry direction component : ℕ) → (neg_ℤ (pos (2 ^ 16)) ≤ℤ number_of at entry direction component) × (number_of at entry direction component ≤ℤ pos (2 ^ 16))
