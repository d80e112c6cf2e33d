use Rattle.std.proofs.Common.{refl}
use Rattle.m2v_strict.specs.GroupRules.{time_code_rule, drop_rule, passing_rule, broken_link_warning}
use Rattle.m2v_strict.proofs.worked.law_group_worked.Goals as goal

pub returns : goal.returns
unfolding time_code_rule drop_rule passing_rule broken_link_warning
returns c = record { passed = refl; tenth = refl; rate = refl }
