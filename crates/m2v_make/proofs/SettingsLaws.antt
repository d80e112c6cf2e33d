-- The settings of the frames of a seed pass the test.
use Rattle.std.proofs.Common.{refl}
use Rattle.m2v_set.specs.Numbers.{field_units, field_time, picture_time, longest_interval_of, arrival_of, longest_of, rows_by, slice_least, least_of, delay_of, limits_of}
use Rattle.m2v_set.specs.Rules.{Passes, judge, and_then, judged, is_progressive, scan_number, frame_rules, channel_rules, buffer_rules, delay_rules, choice_rules, pulldown_rules, rules}
use Rattle.m2v_make.specs.Making.{make_settings}

pub settings_pass : Passes make_settings
unfolding make_settings field_units field_time picture_time longest_interval_of arrival_of longest_of rows_by slice_least least_of delay_of limits_of judge and_then judged is_progressive scan_number frame_rules channel_rules buffer_rules delay_rules choice_rules pulldown_rules rules
settings_pass = refl
