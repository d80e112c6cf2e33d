-- Tables B.10 and B.11 and their look-ups, checked by computing.
use Rattle.std.proofs.Common.{◌≡◌, ℕ, suc, ◌+◌, ◌-◌, ◌<◌, ◌≤◌, Bool, true, ltb, leb, List, [], map, length, refl, sym, ap, ◌∙◌, arith}
use Rattle.std.specs.Prelude.{ℤ, pos, negsuc, ◌≤ℤ◌, ◌<ℤ◌, unsigned_abs}
use Rattle.std.specs.List.{list_all}
use Rattle.std.proofs.lemmas.Int.{ints}
use Rattle.std.proofs.lemmas.Bool.{ltb-true, leb-true}
use Rattle.m2v_bits.specs.Syntax.{Spells}
use Rattle.m2v_vlc.specs.Codes.{Row, code, code_of, code_at, apart_all, is_free, is_within, is_other, is_single}
use Rattle.m2v_vlc.specs.Values.{same_signed, minus}
use Rattle.m2v_vlc.specs.Tables.{motion, motion_code, dmv, dmv_code}
use Rattle.m2v_vlc.specs.Lookups.{code_in}
use Rattle.m2v_vlc.specs.declared.motion_rows.TheConstants.{MOTION_ROWS, MOTION_AT, DMV_ROWS, DMV_AT}
use Rattle.m2v_vlc.proofs.CodeLaws.{code_of_none, length_within, code_spells}
use Rattle.m2v_vlc.proofs.LookupLaws.{holds, code_some}
use Rattle.m2v_vlc.proofs.ValueLaws.{signed_sound, all_in, below, agree}
use Rattle.m2v_vlc.proofs.Checks.{Checked}

-- ---- a table of the values from -most to most, in their order

abbrev pub is_signed : ℕ → ℤ → Bool
is_signed most (pos n) = leb n most
is_signed most (negsuc m) = ltb m most

pub signed_range : (most : ℕ) (v : ℤ) → is_signed most v ≡ true → (minus most ≤ℤ v) × (v ≤ℤ pos most)
signed_range most (pos n) e = let h = leb-true n most e in (omega (arith, ints), omega (arith, ints))
signed_range most (negsuc m) e = let h = ltb-true m most e in (omega (arith, ints), omega (arith, ints))

pub record AreSigned (most : ℕ) (t : List (Row ℤ)) : Type 0 where
  pub known : list_all (λ r. is_signed most r.value) t ≡ true
  pub len : length (map code t) ≡ most + suc most
  pub past : code_in t 255 ≡ []
  pub up : below (λ n. code_in t (most + n)) (suc most) ≡ below (λ n. code_of same_signed t (pos n)) (suc most)
  pub down : below (λ m. code_in t (most - suc m)) most ≡ below (λ m. code_of same_signed t (negsuc m)) most

-- the row of a value by its size and its sign
module _ {most : ℕ} {t : List (Row ℤ)} (are : AreSigned most t) where
  signed_up : (n : ℕ) → n ≤ most → code_in t (most + n) ≡ code_of same_signed t (pos n)
  signed_up n le = agree (λ n. code_in t (most + n)) (λ n. code_of same_signed t (pos n)) (suc most) n are.up (omega arith)

  signed_down : (m : ℕ) → m < most → code_in t (most - suc m) ≡ code_of same_signed t (negsuc m)
  signed_down m lt = agree (λ m. code_in t (most - suc m)) (λ m. code_of same_signed t (negsuc m)) most m are.down lt

  signed_none : (v : ℤ) → (is_signed most v ≡ true → ⊥) → code_in t 255 ≡ code_of same_signed t v
  signed_none v far = are.past ∙ sym (code_of_none same_signed t v (λ r i e. far (ap (is_signed most) (sym (signed_sound r.value v e)) ∙ all_in (is_signed most) t r are.known i)))

  pub signed_index : (v : ℤ) (n : ℕ) → n ≡ unsigned_abs v → n ≤ most → pos 0 ≤ℤ v → code_in t (most + n) ≡ code_of same_signed t v
  signed_index (pos m) n is le sign = rw is (signed_up m (omega (arith, is)))
  signed_index (negsuc m) n is le sign = absurd (omega (arith, ints))

  pub signed_index_negative : (v : ℤ) (n : ℕ) → n ≡ unsigned_abs v → n ≤ most → v <ℤ pos 0 → code_in t (most - n) ≡ code_of same_signed t v
  signed_index_negative (pos m) n is le sign = absurd (omega (arith, ints))
  signed_index_negative (negsuc m) n is le sign = rw is (signed_down m (omega (arith, is)))

  pub signed_index_none : (v : ℤ) (n : ℕ) → n ≡ unsigned_abs v → most < n → code_in t 255 ≡ code_of same_signed t v
  signed_index_none (pos m) n is far = signed_none (pos m) (λ e. omega (arith, is, leb-true m most e))
  signed_index_none (negsuc m) n is far = signed_none (negsuc m) (λ e. omega (arith, is, ltb-true m most e))

  -- each value within the range has a code
  pub signed_some : (v : ℤ) → is_free t ≡ true → minus most ≤ℤ v → v ≤ℤ pos most → 0 < length (code_of same_signed t v)
  signed_some (pos n) free low high =
      let le : n ≤ most = omega (arith, ints) in
      omega (arith, ap length (signed_up n le), code_some t (most + n) free (omega (arith, are.len, le)))
  signed_some (negsuc m) free low high =
      let lt : m < most = omega (arith, ints) in
      omega (arith, ap length (signed_down m lt), code_some t (most - suc m) free (omega (arith, are.len, lt)))

-- ---- tables B.10 and B.11

pub motion_checked : Checked same_signed (pos 0) 11 MOTION_ROWS MOTION_AT motion
unfolding is_free apart_all is_within is_single is_other holds same_signed motion
motion_checked = record { rows = refl; free = refl; within = refl; width = (omega arith, omega arith); single = refl; looked = refl }

pub dmv_checked : Checked same_signed (pos 0) 2 DMV_ROWS DMV_AT dmv
unfolding is_free apart_all is_within is_single is_other holds same_signed dmv
dmv_checked = record { rows = refl; free = refl; within = refl; width = (omega arith, omega arith); single = refl; looked = refl }

pub motion_are : AreSigned 16 motion
unfolding below motion code_of same_signed
motion_are = record { known = refl; len = refl; past = refl; up = refl; down = refl }

pub dmv_are : AreSigned 1 dmv
unfolding below dmv code_of same_signed
dmv_are = record { known = refl; len = refl; past = refl; up = refl; down = refl }

-- ---- the laws

pub motion_length : (v : ℤ) → length (motion_code v) ≤ 11
motion_length v = length_within same_signed 11 motion v motion_checked.within

pub dmv_length : (v : ℤ) → length (dmv_code v) ≤ 2
dmv_length v = length_within same_signed 2 dmv v dmv_checked.within

pub motion_spells : {K : Type 0} (cut none : K) (v : ℤ) → minus 16 ≤ℤ v → v ≤ℤ pos 16 → Spells (code_at cut none motion) v (motion_code v)
motion_spells cut none v low high = code_spells cut none same_signed motion v signed_sound (signed_some motion_are v motion_checked.free low high)

pub dmv_spells : {K : Type 0} (cut none : K) (v : ℤ) → minus 1 ≤ℤ v → v ≤ℤ pos 1 → Spells (code_at cut none dmv) v (dmv_code v)
dmv_spells cut none v low high = code_spells cut none same_signed dmv v signed_sound (signed_some dmv_are v dmv_checked.free low high)
