use Rattle.m2v_check.proofs.Told.{eight_told}
use Rattle.m2v_check.proofs.header_rules.sequence_rules.Goals as goal

pub returns : goal.returns
returns c = record {
  value = eight_told c.args.s.now _ _ _ _ _ _ _ _ c.level_rule.ensures.value c.width_rule.ensures.value c.height_rule.ensures.value c.code_rule.ensures.value c.change_rule.ensures.value
      c.luma_rule.ensures.value c.rate_rule.ensures.value c.buffer_rule.ensures.value;
}
