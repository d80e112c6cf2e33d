-- What is known of a sequence that has an account.
use Rattle.std.proofs.Common.{◌≡◌, ℕ, zero, suc, ◌≤◌, ◌<◌, ◌^◌, Bool, true, false, [], ◌∷◌, refl, sym, ap, ◌∙◌, arith, inl, inr}
use Rattle.std.specs.Prelude.{if◌then◌else◌, ◌&&◌, not, nat_eq, nat_le, nat_lt}
use Rattle.std.proofs.lemmas.Bool.{cases_Bool, le-leb, leb-true, ltb-true}
use Rattle.m2v_set.specs.Numbers.{field_units, field_time, frame_time, limits_of}
use Rattle.m2v_set.specs.declared.settings.Level.{Level}
use Rattle.m2v_set.specs.declared.settings.Level.TheVariants.{Main, High1440, High}
use Rattle.m2v_model.specs.declared.state.Sequence.{Sequence}
use Rattle.m2v_model.specs.Lawful.{Breach, breach, within, rate_of, buffer_of, limits_in, level_in, rate_rule, buffer_rule}
use Rattle.m2v_audit.specs.Opening.{keeps, has_frame_rate, has_account, CanBegin}

both : (a b : Bool) → (a && b) ≡ true → (a ≡ true) × (b ≡ true)
both true b e = (refl, e)
both false b e = absurd (let d : true ≡ false = sym e in cc)

lt_false : (a b : ℕ) → b ≤ a → nat_lt a b ≡ false
lt_false a b l = elim (cases_Bool (nat_lt a b)) [
  | inl t ↦ let m = ltb-true a b t in absurd (omega arith)
  | inr f ↦ f
]

not_below : (n : ℕ) → not (nat_lt n 1) ≡ nat_le 1 n
not_below zero = refl
not_below (suc n) =
    let least : 1 ≤ suc n = omega arith in
    ap not (lt_false (suc n) 1 least) ∙ sym (le-leb 1 (suc n) least)

kept_by : (low high : Bool) (b c : Breach) → keeps (if low then b ∷ [] else (if high then [] else c ∷ [])) ≡ (not low && high)
kept_by true high b c = refl
kept_by false true b c = refl
kept_by false false b c = refl

-- a rule that asks for a number from 1 to a bound
pub keeps_within : (rule have most : ℕ) → keeps (within rule 0 have 1 most) ≡ (nat_le 1 have && nat_le have most)
keeps_within rule have most =
    kept_by (nat_lt have 1) (nat_le have most) (breach rule 0 have 1) (breach rule 0 have most)
    ∙ ap (λ t. t && nat_le have most) (not_below have)

pub keeps_rate : (s : Sequence) → keeps (rate_rule s) ≡ (nat_le 1 (rate_of s) && nat_le (rate_of s) (limits_in s).bits)
unfolding rate_rule
keeps_rate s = keeps_within 6 (rate_of s) (limits_in s).bits

pub keeps_buffer : (s : Sequence) → keeps (buffer_rule s) ≡ (nat_le 1 (buffer_of s) && nat_le (buffer_of s) (limits_in s).buffer)
unfolding buffer_rule
keeps_buffer s = keeps_within 7 (buffer_of s) (limits_in s).buffer

most_rate : (l : Level) → (limits_of l).bits < 2 ^ 30
unfolding limits_of
most_rate Main = omega arith
most_rate High1440 = omega arith
most_rate High = omega arith

most_buffer : (l : Level) → (limits_of l).buffer ≤ 2 ^ 19
unfolding limits_of
most_buffer Main = omega arith
most_buffer High1440 = omega arith
most_buffer High = omega arith

field_least : (code : ℕ) → 1 ≤ code → code ≤ 8 → 1 ≤ field_time code
unfolding field_time field_units
field_least zero l m = absurd (omega arith)
field_least (suc zero) l m = omega arith
field_least (suc (suc zero)) l m = omega arith
field_least (suc (suc (suc zero))) l m = omega arith
field_least (suc (suc (suc (suc zero)))) l m = omega arith
field_least (suc (suc (suc (suc (suc zero))))) l m = omega arith
field_least (suc (suc (suc (suc (suc (suc zero)))))) l m = omega arith
field_least (suc (suc (suc (suc (suc (suc (suc zero))))))) l m = omega arith
field_least (suc (suc (suc (suc (suc (suc (suc (suc zero)))))))) l m = omega arith
field_least (suc (suc (suc (suc (suc (suc (suc (suc (suc code))))))))) l m = absurd (omega arith)

step_least : (low : Bool) (code : ℕ) → 1 ≤ code → code ≤ 8 → 1 ≤ (if low then frame_time code else 1)
step_least true code l m = omega (arith, field_least code l m)
step_least false code l m = omega arith

pub can_begin : (s : Sequence) → has_account s ≡ true → CanBegin s
can_begin s e =
    let parts = both (keeps (rate_rule s) && keeps (buffer_rule s)) (has_frame_rate s) e in
    let rules = both (keeps (rate_rule s)) (keeps (buffer_rule s)) parts.0 in
    let rate = both (nat_le 1 (rate_of s)) (nat_le (rate_of s) (limits_in s).bits) (sym (keeps_rate s) ∙ rules.0) in
    let buffer = both (nat_le 1 (buffer_of s)) (nat_le (buffer_of s) (limits_in s).buffer) (sym (keeps_buffer s) ∙ rules.1) in
    let code = s.info.frame_rate_code in
    let frames = both (nat_le 1 code && nat_le code 8) (nat_eq s.extension.rate_n 0 && nat_eq s.extension.rate_d 0) parts.1 in
    let coded = both (nat_le 1 code) (nat_le code 8) frames.0 in
    let below = leb-true (rate_of s) (limits_in s).bits rate.1 in
    let most = most_rate (level_in s) in
    let small = leb-true (buffer_of s) (limits_in s).buffer buffer.1 in
    let least = most_buffer (level_in s) in
    record {
      rate = leb-true 1 (rate_of s) rate.0;
      rates = omega (arith, below, most);
      buffer = omega (arith, small, least);
      step = step_least s.extension.low_delay code (leb-true 1 code coded.0) (leb-true code 8 coded.1);
    }
