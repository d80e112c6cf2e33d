-- Table B.1 and its look-ups, checked by computing.
use Rattle.std.proofs.Common.{◌≡◌, ℕ, zero, suc, ◌-◌, ◌<◌, ◌≤◌, Bool, true, ltb, leb, [], map, length, refl, sym, ap, ◌∙◌, arith}
use Rattle.std.specs.Prelude.{◌&&◌}
use Rattle.std.specs.List.{list_all}
use Rattle.std.proofs.lemmas.Bool.{and_parts, ltb-true, leb-true}
use Rattle.m2v_bits.specs.Syntax.{Spells}
use Rattle.m2v_vlc.specs.Codes.{code, code_of, code_at, apart_all, is_free, is_within, is_other, is_single}
use Rattle.m2v_vlc.specs.Values.{same_increment, IsIncrement}
use Rattle.m2v_vlc.specs.Tables.{increment, increment_code}
use Rattle.m2v_vlc.specs.Lookups.{code_in}
use Rattle.m2v_vlc.specs.declared.values.Increment.{Increment}
use Rattle.m2v_vlc.specs.declared.values.Increment.TheVariants.{Step, Escape}
use Rattle.m2v_vlc.specs.declared.increment_rows.TheConstants.{INCREMENT_ROWS, INCREMENT_AT}
use Rattle.m2v_vlc.proofs.CodeLaws.{code_of_none, length_within, code_spells}
use Rattle.m2v_vlc.proofs.LookupLaws.{holds, code_some}
use Rattle.m2v_vlc.proofs.ValueLaws.{increment_sound, all_in, below, agree}
use Rattle.m2v_vlc.proofs.Checks.{Checked}

pub increment_checked : Checked same_increment Escape 11 INCREMENT_ROWS INCREMENT_AT increment
unfolding is_free apart_all is_within is_single is_other holds same_increment increment
increment_checked = record { rows = refl; free = refl; within = refl; width = (omega arith, omega arith); single = refl; looked = refl }

-- ---- the values

abbrev pub known : Increment → Bool
known (Step n) = ltb 0 n && leb n 33
known Escape = true

pub is_known : (v : Increment) → known v ≡ true → IsIncrement v
is_known (Step n) e = let h = and_parts (ltb 0 n) (leb n 33) e in (ltb-true _ _ h.0, leb-true _ _ h.1)
is_known Escape e = tt

pub increment_known : list_all (λ r. known r.value) increment ≡ true
unfolding increment
increment_known = refl

steps : below (code_in increment) 33 ≡ below (λ i. increment_code (Step (suc i))) 33
unfolding below increment code_of same_increment
steps = refl

pub step_index : (n : ℕ) → 0 < n → n ≤ 33 → code_in increment (n - 1) ≡ increment_code (Step n)
step_index zero some le = absurd (omega arith)
step_index (suc i) some le = let same : suc i - 1 ≡ i = omega arith in ap (code_in increment) same ∙ agree (code_in increment) (λ i. increment_code (Step (suc i))) 33 i steps (omega arith)

pub escape_index : code_in increment 33 ≡ increment_code Escape
unfolding increment code_of same_increment
escape_index = refl

increment_len : length (map code increment) ≡ 34
unfolding increment
increment_len = refl

none_index : code_in increment 255 ≡ []
unfolding increment
none_index = refl

no_step : (n : ℕ) → (IsIncrement (Step n) → ⊥) → increment_code (Step n) ≡ []
no_step n far = code_of_none same_increment increment (Step n) (λ r i e. far (is_known (Step n) (ap known (sym (increment_sound r.value (Step n) e)) ∙ all_in known increment r increment_known i)))

pub past_index : (n : ℕ) → (IsIncrement (Step n) → ⊥) → code_in increment 255 ≡ increment_code (Step n)
past_index n far = none_index ∙ sym (no_step n far)

-- ---- the laws

pub increment_length : (v : Increment) → length (increment_code v) ≤ 11
increment_length v = length_within same_increment 11 increment v increment_checked.within

-- each increment has a code
pub increment_some : (v : Increment) → IsIncrement v → 0 < length (increment_code v)
increment_some (Step n) is = omega (arith, ap length (step_index n is.0 is.1), code_some increment (n - 1) increment_checked.free (omega (arith, increment_len, is.0, is.1)))
increment_some Escape is = omega (arith, ap length escape_index, code_some increment 33 increment_checked.free (omega (arith, increment_len)))

pub increment_spells : {K : Type 0} (cut none : K) (v : Increment) → IsIncrement v → Spells (code_at cut none increment) v (increment_code v)
increment_spells cut none v is = code_spells cut none same_increment increment v increment_sound (increment_some v is)
