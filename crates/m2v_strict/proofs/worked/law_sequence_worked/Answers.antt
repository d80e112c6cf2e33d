use Rattle.std.proofs.Common.{refl}
use Rattle.m2v_set.specs.Numbers.{field_units, field_time, limits_of}
use Rattle.m2v_model.specs.Lawful.{level_of}
use Rattle.m2v_strict.specs.SequenceRules.{coded_luma_rule, aspect_rule, constrained_rule, first_number_rule, header_rule, extension_rule, is_broadcast, aspect_warning, size_warning, is_higher, height_warning}
use Rattle.m2v_strict.proofs.worked.law_sequence_worked.Goals as goal

pub returns : goal.returns
unfolding field_units field_time limits_of level_of coded_luma_rule aspect_rule constrained_rule first_number_rule header_rule extension_rule is_broadcast aspect_warning size_warning is_higher height_warning
returns c = record { rate = refl; same = refl; header = refl; extension = refl; warnings = refl }
