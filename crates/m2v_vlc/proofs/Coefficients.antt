-- Tables B.14 and B.15 and their look-ups, checked by computing.
use Rattle.std.proofs.Common.{◌≡◌, ℕ, ◌-◌, ◌/◌, ◌<◌, ◌≤◌, Bool, true, List, length, get_or, inl, inr, refl, arith}
use Rattle.std.specs.List.{list_all}
use Rattle.m2v_bits.specs.Bits.{bits_of, number, ahead}
use Rattle.m2v_bits.specs.Syntax.{Spells}
use Rattle.m2v_vlc.specs.declared.values.Coefficient.{Coefficient}
use Rattle.m2v_vlc.specs.declared.values.Coefficient.TheVariants.{End, Escape}
use Rattle.m2v_vlc.specs.declared.zero_rows.TheConstants.{ZERO_ROWS, ZERO_BY_9, ZERO_BY_13, ZERO_BY_17}
use Rattle.m2v_vlc.specs.declared.one_rows.TheConstants.{ONE_ROWS, ONE_BY_9, ONE_BY_13, ONE_BY_17}
use Rattle.m2v_vlc.specs.Codes.{Row, row, In, code_of, code_at, apart_all, is_free, is_within, is_other, is_single}
use Rattle.m2v_vlc.specs.Values.{same_signed}
use Rattle.m2v_vlc.specs.Coefficients.{signed, same_coefficient, pairs_zero, pairs_one, coefficient_zero, coefficient_zero_code, coefficient_one, coefficient_one_code}
use Rattle.m2v_vlc.specs.Places.{start, coefficient_place}
use Rattle.m2v_vlc.specs.Lookups.{Points, code_in}
use Rattle.m2v_vlc.proofs.CodeLaws.{code_of_row, length_within, code_spells}
use Rattle.m2v_vlc.proofs.LookupLaws.{holds, points}
use Rattle.m2v_vlc.proofs.ValueLaws.{below}
use Rattle.m2v_vlc.proofs.Places.{coefficient_sound, coefficient_reflexive, is_small, spot, ArePlaced, place_of}
use Rattle.m2v_vlc.proofs.Checks.{Checked, table_of, points_of}

-- what is computed of a table and of the look-ups of a program by nine, thirteen and seventeen bits
pub record Pointed (entries : List (Coefficient × ℕ × ℕ)) (by_9 by_13 by_17 : List ℕ) (t : List (Row Coefficient)) : Type 0 where
  pub checked : Checked same_coefficient End 17 entries by_17 t
  pub known : list_all (λ r. is_small r.value) t ≡ true
  pub nine : holds End 9 t 8 by_9 ≡ true
  pub thirteen : holds End 13 t 32 by_13 ≡ true
  pub lengths : (length by_9 ≡ 504) × (length by_13 ≡ 96) × (length by_17 ≡ 512)

module _ {entries : List (Coefficient × ℕ × ℕ)} {by_9 by_13 by_17 : List ℕ} {t : List (Row Coefficient)} (are : Pointed entries by_9 by_13 by_17 t) (bs : List Bool) (p i : ℕ) (at : p ≡ number (ahead 17 bs)) where
  pub first_by : p < 131072 → 2048 ≤ p → i ≡ get_or by_9 (p / 256 - 8) 0 → Points t i bs
  first_by lt ge found = points End 9 8 t by_9 bs (p / 256 - 8) i (table_of are.checked) (omega arith) (omega arith) are.nine (rw (← at) (omega arith)) (omega (arith, are.lengths.0)) found

  pub middle_by : p < 2048 → 512 ≤ p → i ≡ get_or by_13 (p / 16 - 32) 0 → Points t i bs
  middle_by lt ge found = points End 13 32 t by_13 bs (p / 16 - 32) i (table_of are.checked) (omega arith) (omega arith) are.thirteen (rw (← at) (omega arith)) (omega (arith, are.lengths.1)) found

  pub last_by : p < 512 → i ≡ get_or by_17 p 0 → Points t i bs
  last_by lt found = points_of are.checked bs p i at (omega (arith, are.lengths.2)) found

-- ---- tables B.14 and B.15

pub zero_pointed : Pointed ZERO_ROWS ZERO_BY_9 ZERO_BY_13 ZERO_BY_17 coefficient_zero
unfolding is_free apart_all is_within is_single is_other holds same_coefficient same_signed coefficient_zero pairs_zero signed
zero_pointed = record { checked = record { rows = refl; free = refl; within = refl; width = (omega arith, omega arith); single = refl; looked = refl }; known = refl; nine = refl; thirteen = refl; lengths = (refl, refl, refl) }

pub one_pointed : Pointed ONE_ROWS ONE_BY_9 ONE_BY_13 ONE_BY_17 coefficient_one
unfolding is_free apart_all is_within is_single is_other holds same_coefficient same_signed coefficient_one pairs_one signed
one_pointed = record { checked = record { rows = refl; free = refl; within = refl; width = (omega arith, omega arith); single = refl; looked = refl }; known = refl; nine = refl; thirteen = refl; lengths = (refl, refl, refl) }

zero_placed : ArePlaced pairs_zero (row End 0x2 2) (row Escape 0x1 6)
unfolding below spot start pairs_zero signed
zero_placed = record { end = refl; escape = refl; spots = refl; places = refl; past = refl }

one_placed : ArePlaced pairs_one (row End 0x6 4) (row Escape 0x1 6)
unfolding below spot start pairs_one signed
one_placed = record { end = refl; escape = refl; spots = refl; places = refl; past = refl }

-- ---- the laws

pub zero_index : (v : Coefficient) → code_in coefficient_zero (coefficient_place v) ≡ coefficient_zero_code v
unfolding coefficient_zero
zero_index v = place_of pairs_zero (row End 0x2 2) (row Escape 0x1 6) zero_placed zero_pointed.checked.single v

pub one_index : (v : Coefficient) → code_in coefficient_one (coefficient_place v) ≡ coefficient_one_code v
unfolding coefficient_one
one_index v = place_of pairs_one (row End 0x6 4) (row Escape 0x1 6) one_placed one_pointed.checked.single v

pub coefficient_zero_length : (v : Coefficient) → length (coefficient_zero_code v) ≤ 17
coefficient_zero_length v = length_within same_coefficient 17 coefficient_zero v zero_pointed.checked.within

pub coefficient_one_length : (v : Coefficient) → length (coefficient_one_code v) ≤ 17
coefficient_one_length v = length_within same_coefficient 17 coefficient_one v one_pointed.checked.within

pub coefficient_zero_spells : {K : Type 0} (cut none : K) (v : Coefficient) → 0 < length (coefficient_zero_code v) → Spells (code_at cut none coefficient_zero) v (coefficient_zero_code v)
coefficient_zero_spells cut none v some = code_spells cut none same_coefficient coefficient_zero v coefficient_sound some

pub coefficient_one_spells : {K : Type 0} (cut none : K) (v : Coefficient) → 0 < length (coefficient_one_code v) → Spells (code_at cut none coefficient_one) v (coefficient_one_code v)
coefficient_one_spells cut none v some = code_spells cut none same_coefficient coefficient_one v coefficient_sound some

-- the end of a block and the escape
pub coefficient_zero_end : coefficient_zero_code End ≡ bits_of 2 0x2
unfolding coefficient_zero code_of same_coefficient
coefficient_zero_end = refl

pub coefficient_one_end : coefficient_one_code End ≡ bits_of 4 0x6
unfolding coefficient_one code_of same_coefficient
coefficient_one_end = refl

pub in_zero : In coefficient_zero (row Escape 0x1 6)
unfolding coefficient_zero
in_zero = inr (inl refl)

pub in_one : In coefficient_one (row Escape 0x1 6)
unfolding coefficient_one
in_one = inr (inl refl)

pub coefficient_zero_escape : coefficient_zero_code Escape ≡ bits_of 6 0x1
coefficient_zero_escape = code_of_row same_coefficient coefficient_zero (row Escape 0x1 6) coefficient_reflexive zero_pointed.checked.single in_zero

pub coefficient_one_escape : coefficient_one_code Escape ≡ bits_of 6 0x1
coefficient_one_escape = code_of_row same_coefficient coefficient_one (row Escape 0x1 6) coefficient_reflexive one_pointed.checked.single in_one
