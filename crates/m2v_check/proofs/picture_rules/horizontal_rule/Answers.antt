use Rattle.std.proofs.Common.{◌≡◌}
use Rattle.m2v_model.specs.Lawful.{horizontal_rule}
use Rattle.m2v_check.proofs.picture_rules.horizontal_rule.Goals as goal

pub returns : goal.returns
unfolding horizontal_rule
returns c = record { value = rw (← c.level_of.ensures.value, ← c.most_horizontal-most.ensures.value) c.f_code_rules.ensures.value }
