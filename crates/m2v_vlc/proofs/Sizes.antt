-- Tables B.12 and B.13 and their look-ups, checked by computing.
use Rattle.std.proofs.Common.{◌≡◌, ℕ, ◌<◌, ◌≤◌, Bool, true, ltb, List, [], ◌++◌, map, length, inl, inr, refl, sym, ap, ◌∙◌, arith}
use Rattle.std.specs.List.{list_all}
use Rattle.std.proofs.lemmas.Bool.{cases_lt, ltb-true, both_ways, le-ltb}
use Rattle.std.proofs.lemmas.List.{get_or_past}
use Rattle.m2v_bits.specs.Syntax.{Spells}
use Rattle.m2v_vlc.specs.Codes.{Row, code, code_of, code_at, apart_all, is_free, is_within, is_other, is_single}
use Rattle.m2v_vlc.specs.Values.{same_number}
use Rattle.m2v_vlc.specs.Tables.{dc_luma, dc_luma_code, dc_chroma, dc_chroma_code}
use Rattle.m2v_vlc.specs.Lookups.{code_in}
use Rattle.m2v_vlc.specs.declared.size_rows.TheConstants.{LUMA_ROWS, LUMA_AT, CHROMA_ROWS, CHROMA_AT}
use Rattle.m2v_vlc.proofs.CodeLaws.{code_of_none, length_within, code_spells}
use Rattle.m2v_vlc.proofs.LookupLaws.{holds, code_some}
use Rattle.m2v_vlc.proofs.ValueLaws.{number_sound, number_reflexive, all_in, below, agree}
use Rattle.m2v_vlc.proofs.Checks.{Checked, once_of}

abbrev pub is_size : ℕ → Bool
is_size v = ltb v 12

pub size_below : (v : ℕ) → is_size v ≡ true → v < 12
size_below v e = ltb-true v 12 e

-- ---- a table of sizes

-- it has the sizes from 0 to 11, each in the row at its place
pub record AreSizes (t : List (Row ℕ)) : Type 0 where
  pub known : list_all (λ r. is_size r.value) t ≡ true
  pub len : length (map code t) ≡ 12
  pub codes : below (code_in t) 12 ≡ below (code_of same_number t) 12

module _ {t : List (Row ℕ)} (are : AreSizes t) where
  size_none : (v : ℕ) → 12 ≤ v → code_of same_number t v ≡ []
  size_none v far = code_of_none same_number t v (λ r i e. absurd (both_ways (is_size v) (le-ltb v 12 far) (ap is_size (sym (number_sound r.value v e)) ∙ all_in is_size t r are.known i)))

  pub size_index : (v : ℕ) → code_in t v ≡ code_of same_number t v
  size_index v = elim (cases_lt v 12) [ inl lt ↦ agree (code_in t) (code_of same_number t) 12 v are.codes lt | inr far ↦ get_or_past (map code t) v [] (omega (arith, are.len)) ∙ sym (size_none v far) ]

  -- each size has a code
  pub size_some : (v : ℕ) → is_free t ≡ true → v < 12 → 0 < length (code_of same_number t v)
  size_some v free lt = omega (arith, ap length (size_index v), code_some t v free (omega (arith, are.len)))

-- ---- tables B.12, luma, and B.13, chroma

pub dc_luma_checked : Checked same_number 0 9 LUMA_ROWS LUMA_AT dc_luma
unfolding is_free apart_all is_within is_single is_other holds dc_luma
dc_luma_checked = record { rows = refl; free = refl; within = refl; width = (omega arith, omega arith); single = refl; looked = refl }

pub dc_chroma_checked : Checked same_number 0 10 CHROMA_ROWS CHROMA_AT dc_chroma
unfolding is_free apart_all is_within is_single is_other holds dc_chroma
dc_chroma_checked = record { rows = refl; free = refl; within = refl; width = (omega arith, omega arith); single = refl; looked = refl }

pub dc_luma_are : AreSizes dc_luma
unfolding below dc_luma code_of
dc_luma_are = record { known = refl; len = refl; codes = refl }

pub dc_chroma_are : AreSizes dc_chroma
unfolding below dc_chroma code_of
dc_chroma_are = record { known = refl; len = refl; codes = refl }

-- ---- the laws

pub dc_luma_length : (v : ℕ) → length (dc_luma_code v) ≤ 9
dc_luma_length v = length_within same_number 9 dc_luma v dc_luma_checked.within

pub dc_chroma_length : (v : ℕ) → length (dc_chroma_code v) ≤ 10
dc_chroma_length v = length_within same_number 10 dc_chroma v dc_chroma_checked.within

pub dc_luma_spells : {K : Type 0} (cut none : K) (v : ℕ) → v < 12 → Spells (code_at cut none dc_luma) v (dc_luma_code v)
dc_luma_spells cut none v lt = code_spells cut none same_number dc_luma v number_sound (size_some dc_luma_are v dc_luma_checked.free lt)

pub dc_chroma_spells : {K : Type 0} (cut none : K) (v : ℕ) → v < 12 → Spells (code_at cut none dc_chroma) v (dc_chroma_code v)
dc_chroma_spells cut none v lt = code_spells cut none same_number dc_chroma v number_sound (size_some dc_chroma_are v dc_chroma_checked.free lt)

-- what stands for a size is its code
pub dc_luma_once : {K : Type 0} (cut none : K) (v : ℕ) (t rest : List Bool) → (code_at cut none dc_luma).Stands v t rest → t ≡ dc_luma_code v ++ rest
dc_luma_once cut none v t rest st = once_of dc_luma_checked cut none v t rest number_reflexive st

pub dc_chroma_once : {K : Type 0} (cut none : K) (v : ℕ) (t rest : List Bool) → (code_at cut none dc_chroma).Stands v t rest → t ≡ dc_chroma_code v ++ rest
dc_chroma_once cut none v t rest st = once_of dc_chroma_checked cut none v t rest number_reflexive st
