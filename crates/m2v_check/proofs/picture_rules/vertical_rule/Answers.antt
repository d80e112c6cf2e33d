use Rattle.std.proofs.Common.{◌≡◌}
use Rattle.m2v_model.specs.Lawful.{vertical_rule}
use Rattle.m2v_check.proofs.picture_rules.vertical_rule.Goals as goal

pub returns : goal.returns
unfolding vertical_rule
returns c = record { value = rw (← c.most_vertical.ensures.value) c.f_code_rules.ensures.value }
