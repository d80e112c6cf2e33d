use Rattle.std.proofs.Common.{refl}
use Rattle.m2v_model.specs.Lawful.{level_of}
use Rattle.m2v_strict.specs.SequenceRules.{is_higher}
use Rattle.m2v_strict.specs.PictureRules.{low_delay_rule, delay_rule, f_code_rule, full_pel_rule, field_rule, prediction_rule, top_first_rule, interlaced_rule, repeat_by_rate_rule, chroma_rule, dropped_warning, b_repeat_warning}
use Rattle.m2v_strict.proofs.worked.law_picture_worked.Goals as goal

pub returns : goal.returns
unfolding level_of is_higher low_delay_rule delay_rule f_code_rule full_pel_rule field_rule prediction_rule top_first_rule interlaced_rule repeat_by_rate_rule chroma_rule dropped_warning b_repeat_warning
returns c = record {
  delays = refl;
  unused = refl;
  frame = refl;
  varying = refl;
  vectors = refl;
  field = refl;
  warnings = refl;
}
