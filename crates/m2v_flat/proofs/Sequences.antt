-- The sequence header of settings that passed keeps to the bounds of main level.
use Rattle.std.proofs.Common.{◌≡◌, ◌*◌, [], ◌∷◌, refl, arith}
use Rattle.m2v_set.specs.Numbers.{limits_of, frame_time}
use Rattle.m2v_flat.specs.declared.settings.FlatSettings.{FlatSettings}
use Rattle.m2v_flat.specs.Answers.{HasPassed}
use Rattle.m2v_flat.specs.Tree.{sequence_of}
use Rattle.m2v_flat.proofs.Passing.{InBounds, in_bounds}
use Rattle.m2v_model.specs.States.{width_of, height_of}
use Rattle.m2v_model.specs.Lawful.{level_of, level_rule, width_rule, height_rule, frame_rate_rule, luma_rule, rate_rule, buffer_rule, sequence_breaches}
use Rattle.m2v_model.proofs.Judging.{most_none, within_none}

-- ---- rule by rule

module _ (s : FlatSettings) (b : InBounds s.dims.width s.dims.height s.rate_code s.quantiser) where
  width_is : width_of (sequence_of s) ≡ s.dims.width
  width_is = omega arith

  height_is : height_of (sequence_of s) ≡ s.dims.height
  height_is = omega arith

  level_none : level_rule (sequence_of s) ≡ []
  unfolding level_rule
  level_none = refl

  width_none : width_rule (sequence_of s) ≡ []
  unfolding width_rule level_of limits_of
  width_none = rw width_is (most_none 2 0 s.dims.width 720 b.width_most)

  height_none : height_rule (sequence_of s) ≡ []
  unfolding height_rule level_of limits_of
  height_none = rw height_is (most_none 3 0 s.dims.height 576 b.height_most)

  frame_rate_none : frame_rate_rule (sequence_of s) ≡ []
  unfolding frame_rate_rule level_of limits_of
  frame_rate_none = rw (within_none 4 0 s.rate_code 1 5 b.code_least b.code_most) refl

  luma_none : luma_rule (sequence_of s) ≡ []
  unfolding luma_rule level_of limits_of
  luma_none = rw (width_is, height_is) (most_none 5 0 (720000 * s.dims.width * s.dims.height) (10368000 * frame_time s.rate_code) b.luma)

  rate_none : rate_rule (sequence_of s) ≡ []
  unfolding rate_rule level_of limits_of
  rate_none = refl

  buffer_none : buffer_rule (sequence_of s) ≡ []
  unfolding buffer_rule level_of limits_of
  buffer_none = refl

pub sequence_none : (s : FlatSettings) → HasPassed s → sequence_breaches (sequence_of s ∷ []) ≡ []
sequence_none s passed =
    let b = in_bounds s.dims.width s.dims.height s.rate_code s.quantiser passed.passes in
    rw (level_none s b, width_none s b, height_none s b, frame_rate_none s b, luma_none s b, rate_none s b, buffer_none s b) refl
