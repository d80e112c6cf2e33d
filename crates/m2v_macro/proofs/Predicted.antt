-- The predictors stay in their ranges.
use Rattle.std.proofs.Common.{◌≡◌, ℕ, ◌^◌, Bool, true, false, List, ℤ, pos, ◌*ℤ◌, refl, inl, inr, arith}
use Rattle.std.specs.Prelude.{slice_index, slice_index_or}
use Rattle.std.proofs.lemmas.Int.{ints}
use Rattle.std.proofs.lemmas.Bool.{cases_Bool}
use Rattle.std.proofs.lemmas.Nat.{pow_pos}
use Rattle.m2v_vector.specs.declared.predictors.Pmv.{Pmv}
use Rattle.m2v_vector.specs.declared.predictors.Motion.{Motion}
use Rattle.m2v_vector.specs.Vectors.{scale, IsVector}
use Rattle.m2v_vector.specs.Predictors.{zeros, pair_of, resets, has_vectors, has_two, is_halved, left_by, entry_after, predictors_after}
use Rattle.m2v_macro.specs.declared.values.SliceState.{SliceState}
use Rattle.m2v_macro.specs.declared.values.PictureContext.{PictureContext}
use Rattle.m2v_macro.specs.States.{skipped, skips, pmv_before}
use Rattle.m2v_macro.specs.Conditions.{IsPair, ArePredictors, IsHalf}

pub zero_vector : (n : ℕ) → IsVector (2 ^ n) (pos 0)
zero_vector n = let some = pow_pos n in (omega (arith, ints), omega (arith, ints))

pub zero_pair : (f_code : List ℕ) → IsPair f_code zeros
zero_pair f_code = record { horizontal = zero_vector _; vertical = zero_vector _ }

doubled : (f : ℕ) (v : ℤ) → IsHalf f v → IsVector f (pos 2 *ℤ v)
doubled f v h = (omega (arith, ints, h.0), omega (arith, ints, h.1))

-- the entry that a vector leaves
left_pair : (f_code : List ℕ) (halved : Bool) (v : List ℤ) → IsPair f_code v → (halved ≡ true → IsHalf (scale (slice_index f_code 1)) (slice_index_or v 1 (pos 0))) → IsPair f_code (left_by halved v)
unfolding left_by
left_pair f_code true v p h = record { horizontal = p.horizontal; vertical = doubled _ _ (h refl) }
left_pair f_code false v p h = record { horizontal = p.horizontal; vertical = p.vertical }

-- the vectors of a direction that a macroblock has
pub record Leaves (f_code : List ℕ) (m : Motion) (direction : ℕ) : Type 0 where
  pub first : has_vectors m direction ≡ true → IsPair f_code (pair_of m.vectors 0 direction)
  pub first_half : has_vectors m direction ≡ true → is_halved m.field_picture m.form ≡ true → IsHalf (scale (slice_index f_code 1)) (slice_index_or (pair_of m.vectors 0 direction) 1 (pos 0))
  pub second : has_vectors m direction ≡ true → has_two m.field_picture m.form ≡ true → IsPair f_code (pair_of m.vectors 1 direction)
  pub second_half : has_vectors m direction ≡ true → has_two m.field_picture m.form ≡ true → is_halved m.field_picture m.form ≡ true → IsHalf (scale (slice_index f_code 1)) (slice_index_or (pair_of m.vectors 1 direction) 1 (pos 0))

entry_first : (f_code : List ℕ) (m : Motion) (p : Pmv) (direction : ℕ) → IsPair f_code (pair_of p.at 0 direction) → Leaves f_code m direction → IsPair f_code (entry_after m p 0 direction)
unfolding entry_after
entry_first f_code m p direction old l = elim (cases_Bool (has_vectors m direction)) [
  | inl told ↦ elim (cases_Bool (has_two m.field_picture m.form)) [
    | inl two ↦ rw (told, two) (left_pair f_code _ _ (l.first told) (l.first_half told))
    | inr one ↦ rw (told, one) (left_pair f_code _ _ (l.first told) (l.first_half told))
  ]
  | inr untold ↦ rw untold old
]

entry_second : (f_code : List ℕ) (m : Motion) (p : Pmv) (direction : ℕ) → IsPair f_code (pair_of p.at 1 direction) → Leaves f_code m direction → IsPair f_code (entry_after m p 1 direction)
unfolding entry_after
entry_second f_code m p direction old l = elim (cases_Bool (has_vectors m direction)) [
  | inl told ↦ elim (cases_Bool (has_two m.field_picture m.form)) [
    | inl two ↦ rw (told, two) (left_pair f_code _ _ (l.second told two) (l.second_half told two))
    | inr one ↦ rw (told, one) (left_pair f_code _ _ (l.first told) (l.first_half told))
  ]
  | inr untold ↦ rw untold old
]

pub forward_after : (f_code : List ℕ) (m : Motion) (p : Pmv) → ArePredictors f_code p 0 → Leaves f_code m 0 → ArePredictors f_code (predictors_after m p) 0
unfolding predictors_after
forward_after f_code m p old l = elim (cases_Bool (resets m)) [
  | inl reset ↦ rw reset (record { first = zero_pair f_code; second = zero_pair f_code })
  | inr kept ↦ rw kept (record { first = entry_first f_code m p 0 old.first l; second = entry_second f_code m p 0 old.second l })
]

pub backward_after : (f_code : List ℕ) (m : Motion) (p : Pmv) → ArePredictors f_code p 1 → Leaves f_code m 1 → ArePredictors f_code (predictors_after m p) 1
unfolding predictors_after
backward_after f_code m p old l = elim (cases_Bool (resets m)) [
  | inl reset ↦ rw reset (record { first = zero_pair f_code; second = zero_pair f_code })
  | inr kept ↦ rw kept (record { first = entry_first f_code m p 1 old.first l; second = entry_second f_code m p 1 old.second l })
]

-- skipped macroblocks have no vectors
none_leaves : (f_code : List ℕ) (m : Motion) (direction : ℕ) → has_vectors m direction ≡ false → Leaves f_code m direction
none_leaves f_code m direction none = record {
  first = λ e. absurd cc;
  first_half = λ e h. absurd cc;
  second = λ e t. absurd cc;
  second_half = λ e t h. absurd cc;
}

skipped_none : (c : PictureContext) → (has_vectors (skipped c) 0 ≡ false) × (has_vectors (skipped c) 1 ≡ false)
unfolding has_vectors
skipped_none c = (refl, refl)

pub forward_before : (f_code : List ℕ) (c : PictureContext) (st : SliceState) (increment : ℕ) → ArePredictors f_code st.pmv 0 → ArePredictors f_code (pmv_before c st increment) 0
unfolding pmv_before
forward_before f_code c st increment old = elim (cases_Bool (skips st increment)) [
  | inl skip ↦ rw skip (forward_after f_code (skipped c) st.pmv old (none_leaves f_code (skipped c) 0 (skipped_none c).0))
  | inr next ↦ rw next old
]

pub backward_before : (f_code : List ℕ) (c : PictureContext) (st : SliceState) (increment : ℕ) → ArePredictors f_code st.pmv 1 → ArePredictors f_code (pmv_before c st increment) 1
unfolding pmv_before
backward_before f_code c st increment old = elim (cases_Bool (skips st increment)) [
  | inl skip ↦ rw skip (backward_after f_code (skipped c) st.pmv old (none_leaves f_code (skipped c) 1 (skipped_none c).1))
  | inr next ↦ rw next old
]
