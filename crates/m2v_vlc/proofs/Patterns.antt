-- Table B.9 and its look-ups, checked by computing.
use Rattle.std.proofs.Common.{◌≡◌, ℕ, zero, suc, ◌-◌, ◌<◌, ◌≤◌, Bool, true, ltb, [], map, length, inl, inr, refl, sym, ap, ◌∙◌, arith}
use Rattle.std.specs.Prelude.{◌&&◌}
use Rattle.std.specs.List.{list_all}
use Rattle.std.proofs.lemmas.Bool.{cases_lt, ltb-true, and_parts}
use Rattle.std.proofs.lemmas.List.{get_or_past}
use Rattle.m2v_bits.specs.Syntax.{Spells}
use Rattle.m2v_vlc.specs.Codes.{code, code_of, code_at, apart_all, is_free, is_within, is_other, is_single}
use Rattle.m2v_vlc.specs.Values.{same_number}
use Rattle.m2v_vlc.specs.Tables.{block_pattern, pattern_code}
use Rattle.m2v_vlc.specs.Lookups.{code_in}
use Rattle.m2v_vlc.specs.declared.pattern_rows.TheConstants.{PATTERN_ROWS, PATTERN_AT}
use Rattle.m2v_vlc.proofs.CodeLaws.{code_of_none, length_within, code_spells}
use Rattle.m2v_vlc.proofs.LookupLaws.{holds, code_some}
use Rattle.m2v_vlc.proofs.ValueLaws.{number_sound, all_in, below, agree}
use Rattle.m2v_vlc.proofs.Checks.{Checked}

abbrev pub is_pattern : ℕ → Bool
is_pattern v = ltb 0 v && ltb v 64

pub pattern_range : (v : ℕ) → is_pattern v ≡ true → (0 < v) × (v < 64)
pattern_range v e = let h = and_parts (ltb 0 v) (ltb v 64) e in (ltb-true 0 v h.0, ltb-true v 64 h.1)

pub pattern_checked : Checked same_number 0 9 PATTERN_ROWS PATTERN_AT block_pattern
unfolding is_free apart_all is_within is_single is_other holds block_pattern
pattern_checked = record { rows = refl; free = refl; within = refl; width = (omega arith, omega arith); single = refl; looked = refl }

pub pattern_known : list_all (λ r. is_pattern r.value) block_pattern ≡ true
unfolding block_pattern
pattern_known = refl

pattern_codes : below (code_in block_pattern) 63 ≡ below (λ i. pattern_code (suc i)) 63
unfolding below block_pattern code_of
pattern_codes = refl

pattern_len : length (map code block_pattern) ≡ 63
unfolding block_pattern
pattern_len = refl

-- 0 and what is above 63 have no code
pub pattern_none : (v : ℕ) → ((0 < v) × (v < 64) → ⊥) → pattern_code v ≡ []
pattern_none v far = code_of_none same_number block_pattern v (λ r i e. far (pattern_range v (ap is_pattern (sym (number_sound r.value v e)) ∙ all_in is_pattern block_pattern r pattern_known i)))

past_index : (i : ℕ) → 63 ≤ i → code_in block_pattern i ≡ []
past_index i le = get_or_past (map code block_pattern) i [] (omega (arith, pattern_len))

pub pattern_index_none : code_in block_pattern 255 ≡ pattern_code 0
pattern_index_none = past_index 255 (omega arith) ∙ sym (pattern_none 0 (λ r. omega (arith, r.0)))

-- the row of a pattern stands one before it
pub pattern_index : (v : ℕ) → (v ≡ 0 → ⊥) → code_in block_pattern (v - 1) ≡ pattern_code v
pattern_index zero some = absurd (some refl)
pattern_index (suc i) some =
    let same : suc i - 1 ≡ i = omega arith in
    ap (code_in block_pattern) same ∙ elim (cases_lt i 63) [ inl lt ↦ agree (code_in block_pattern) (λ i. pattern_code (suc i)) 63 i pattern_codes lt | inr far ↦ past_index i far ∙ sym (pattern_none (suc i) (λ r. omega (arith, r.1))) ]

pub pattern_length : (v : ℕ) → length (pattern_code v) ≤ 9
pattern_length v = length_within same_number 9 block_pattern v pattern_checked.within

-- each pattern from 1 to 63 has a code
pub pattern_some : (v : ℕ) → 0 < v → v < 64 → 0 < length (pattern_code v)
pattern_some v some lt = omega (arith, ap length (pattern_index v (λ z. omega arith)), code_some block_pattern (v - 1) pattern_checked.free (omega (arith, pattern_len)))

pub pattern_spells : {K : Type 0} (cut none : K) (v : ℕ) → 0 < v → v < 64 → Spells (code_at cut none block_pattern) v (pattern_code v)
pattern_spells cut none v some lt = code_spells cut none same_number block_pattern v number_sound (pattern_some v some lt)
