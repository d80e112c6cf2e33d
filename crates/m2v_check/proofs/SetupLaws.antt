-- A sequence header that breaks no rule.
use Rattle.std.proofs.Common.{◌≡◌, ℕ, ◌≤◌, Bool, true, false, [], ◌∷◌, Option, Some, None, refl, sym, ◌∙◌, inl, inr, arith}
use Rattle.std.specs.Prelude.{if◌then◌else◌, nat_lt, nat_le}
use Rattle.std.proofs.lemmas.Bool.{leb-true, lt-ltb, cases_lt}
use Rattle.m2v_set.specs.declared.settings.Level.{Level}
use Rattle.m2v_set.specs.declared.settings.Level.TheVariants.{Main, High1440, High}
use Rattle.m2v_set.specs.Numbers.{limits_of}
use Rattle.m2v_model.specs.declared.state.Sequence.{Sequence}
use Rattle.m2v_model.specs.Lawful.{breach, judge, limits_in, level_in, rate_of, buffer_of, rate_rule, buffer_rule, sequence_breaches}
use Rattle.m2v_check.specs.declared.broken.BrokenRule.{BrokenRule}
use Rattle.m2v_check.specs.declared.buffer.Setup.{Setup}
use Rattle.m2v_check.specs.Breaking.{first_some, found}
use Rattle.m2v_check.specs.Judging.{FitsSetup}
use Rattle.m2v_check.proofs.Firsts.{seven_found}

none_first : (a b : Option BrokenRule) → first_some a b ≡ None → (a ≡ None) × (b ≡ None)
none_first None b e = (refl, e)
none_first (Some x) b e = absurd cc

none_within : (a b : Bool) (r p h l m : ℕ) → found (if a then breach r p h l ∷ [] else judge b (breach r p h m)) ≡ None → (a ≡ false) × (b ≡ true)
none_within true b r p h l m e = absurd cc
none_within false true r p h l m e = (refl, refl)
none_within false false r p h l m e = absurd cc

not_below : (a b : ℕ) → nat_lt a b ≡ false → b ≤ a
not_below a b e = elim (cases_lt a b) [
  | inl l ↦ let t : nat_lt a b ≡ true = lt-ltb a b l in absurd (let d : true ≡ false = sym t ∙ e in cc)
  | inr m ↦ m
]

most_bits : (l : Level) → (limits_of l).bits ≤ 200000
unfolding limits_of
most_bits Main = omega arith
most_bits High1440 = omega arith
most_bits High = omega arith

most_buffer : (l : Level) → (limits_of l).buffer ≤ 597
unfolding limits_of
most_buffer Main = omega arith
most_buffer High1440 = omega arith
most_buffer High = omega arith

pub fits_setup : (s : Sequence) (x : Setup) → x.rate ≡ rate_of s → x.buffer ≡ buffer_of s → found (sequence_breaches (s ∷ [])) ≡ None → FitsSetup x
unfolding rate_rule buffer_rule
fits_setup s x er eb none =
    let parts = none_first _ _ (sym (seven_found s) ∙ none) in
    let last = none_first _ _ (none_first _ _ parts.1).1 in
    let rate = none_within (nat_lt (rate_of s) 1) (nat_le (rate_of s) (limits_in s).bits) 6 0 (rate_of s) 1 (limits_in s).bits last.0 in
    let buffer = none_within (nat_lt (buffer_of s) 1) (nat_le (buffer_of s) (limits_in s).buffer) 7 0 (buffer_of s) 1 (limits_in s).buffer last.1 in
    let low : 1 ≤ rate_of s = not_below (rate_of s) 1 rate.0 in
    let high : rate_of s ≤ (limits_in s).bits = leb-true _ _ rate.1 in
    let size : buffer_of s ≤ (limits_in s).buffer = leb-true _ _ buffer.1 in
    record {
      rate = omega (arith, er, low);
      rates = omega (arith, er, high, most_bits (level_in s));
      buffer = omega (arith, eb, size, most_buffer (level_in s));
    }
