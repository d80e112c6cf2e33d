-- The sequence headers of settings that pass keep to the level's bounds.
use Rattle.std.proofs.Common.{◌≡◌, ℕ, ◌+◌, ◌*◌, ◌/◌, ◌%◌, true, List, [], ◌∷◌, refl, ap, ◌∙◌, arith}
use Rattle.std.specs.Prelude.{All}
use Rattle.std.specs.List.{flat_map}
use Rattle.std.proofs.lemmas.List.Elements.{All-head, All-tail}
use Rattle.std.proofs.Math.Nat.{mod-add-div'}
use Rattle.m2v_set.specs.declared.settings.Settings.{Settings}
use Rattle.m2v_set.specs.declared.settings.Level.{Level}
use Rattle.m2v_set.specs.declared.settings.Level.TheVariants.{Main, High1440, High}
use Rattle.m2v_set.specs.Rules.{Passes}
use Rattle.m2v_set.specs.Numbers.{limits_of, frame_time}
use Rattle.m2v_set.specs.Bounds.{Bounds}
use Rattle.m2v_set.proofs.Facts.{bounds}
use Rattle.m2v_slice.specs.Headers.{sequence_of, sequence_extension_of, profile_of}
use Rattle.m2v_model.specs.declared.state.Sequence.{Sequence}
use Rattle.m2v_model.specs.States.{width_of, height_of}
use Rattle.m2v_model.specs.Lawful.{Breaches, level_of, level_rule, width_rule, height_rule, frame_rate_rule, luma_rule, rate_rule, buffer_rule, rate_of, buffer_of, limits_in, is_level, sequence_breaches}
use Rattle.m2v_law_shown.specs.Own.{own_sequence}
use Rattle.m2v_model.proofs.Judging.{judge_none, most_none, within_none}

-- ---- rules that hold

pub flat_none : {A B : Type 0} (f : A → List B) (P : A → Type 0) (xs : List A) → All P xs → ((x : A) → P x → f x ≡ []) → flat_map f xs ≡ []
flat_none f P [] all none = refl
flat_none f P (x ∷ xs) all none =
    rw (none x (All-head P x xs all), flat_none f P xs (All-tail P x xs all) none) refl

-- ---- the numbers of the encoder's headers

level_is : (l : Level) → level_of (profile_of l) ≡ l
unfolding level_of profile_of
level_is Main = refl
level_is High1440 = refl
level_is High = refl

is_level_own : (l : Level) → is_level (profile_of l) ≡ true
unfolding profile_of
is_level_own Main = refl
is_level_own High1440 = refl
is_level_own High = refl

whole : (n m : ℕ) → n / m * m + n % m ≡ n
whole n m = let e = mod-add-div' n m in omega (arith, e)

width_is : (s : Settings) → width_of (own_sequence s) ≡ s.width
unfolding sequence_of sequence_extension_of
width_is s = let e = whole s.width 4096 in omega (arith, e)

height_is : (s : Settings) → height_of (own_sequence s) ≡ s.height
unfolding sequence_of sequence_extension_of
height_is s = let e = whole s.height 4096 in omega (arith, e)

rate_is : (s : Settings) → rate_of (own_sequence s) ≡ s.bits
unfolding sequence_of sequence_extension_of
rate_is s = whole s.bits 262144

buffer_is : (s : Settings) → buffer_of (own_sequence s) ≡ s.buffer
unfolding sequence_of sequence_extension_of
buffer_is s = whole s.buffer 1024

limits_are : (s : Settings) → limits_in (own_sequence s) ≡ limits_of s.level
unfolding sequence_extension_of
limits_are s = ap limits_of (level_is s.level)

-- ---- rule by rule

module _ (s : Settings) (b : Bounds s) where
  level_none : level_rule (own_sequence s) ≡ []
  unfolding level_rule sequence_extension_of
  level_none = judge_none _ _ (is_level_own s.level)

  width_none : width_rule (own_sequence s) ≡ []
  unfolding width_rule
  width_none = rw (width_is s, limits_are s) (most_none 2 0 s.width (limits_of s.level).width b.level.width)

  height_none : height_rule (own_sequence s) ≡ []
  unfolding height_rule
  height_none = rw (height_is s, limits_are s) (most_none 3 0 s.height (limits_of s.level).height b.level.height)

  frame_rate_none : frame_rate_rule (own_sequence s) ≡ []
  unfolding frame_rate_rule sequence_of sequence_extension_of
  frame_rate_none = rw (level_is s.level, within_none 4 0 s.rate_code 1 (limits_of s.level).codes b.size.code b.level.codes) refl

  luma_none : luma_rule (own_sequence s) ≡ []
  unfolding luma_rule sequence_of
  luma_none = rw (width_is s, height_is s, limits_are s) (most_none 5 0 (720000 * s.width * s.height) ((limits_of s.level).luma * frame_time s.rate_code) b.level.luma)

  rate_none : rate_rule (own_sequence s) ≡ []
  unfolding rate_rule
  rate_none = rw (rate_is s, limits_are s) (within_none 6 0 s.bits 1 (limits_of s.level).bits b.size.bit b.level.bits)

  buffer_none : buffer_rule (own_sequence s) ≡ []
  unfolding buffer_rule
  buffer_none = rw (buffer_is s, limits_are s) (within_none 7 0 s.buffer 1 (limits_of s.level).buffer b.size.buffered b.level.buffer)

pub sequences_none : (s : Settings) (ss : List Sequence) → Passes s → All (λ (t : Sequence). t ≡ own_sequence s) ss → sequence_breaches ss ≡ []
sequences_none s ss passes all =
    let b = bounds s passes in
    let P = λ (t : Sequence). t ≡ own_sequence s in
    let each = λ (rule : Sequence → Breaches) (none : rule (own_sequence s) ≡ []). flat_none rule P ss all (λ t e. ap rule e ∙ none) in
    rw (
      each level_rule (level_none s b),
      each width_rule (width_none s b),
      each height_rule (height_none s b),
      each frame_rate_rule (frame_rate_none s b),
      each luma_rule (luma_none s b),
      each rate_rule (rate_none s b),
      each buffer_rule (buffer_none s b),
    )
    refl
