use Rattle.std.proofs.Common.{ap, ap₂, ◌∙◌, ◌++◌}
use Rattle.std.proofs.lemmas.Result.{IfOk-weaker}
use Rattle.clap.specs.Simple.{App, with_rule}
use Rattle.m2v_tool.specs.Simple.{with_rules}
use Rattle.m2v_tool.specs.EncodeWords.{numbers, others}
use Rattle.m2v_tool.proofs.meant.y4m_command.Goals as goal

pub returns : goal.returns
returns c =
    let with1 = c.in_ok-command.ensures ∙ ap₂ with_rule c.simple-command.ensures c.required_option.ensures.rule in
    let with2 = c.in_ok-command-2.ensures ∙ ap₂ with_rule with1 c.required_option-2.ensures.rule in
    IfOk-weaker c.with_options.result _ _ (λ m h. h ∙ ap (λ (a : App). with_rules a (numbers ++ others)) with2) c.with_options.ensures
