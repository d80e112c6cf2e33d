use Rattle.std.proofs.Common.{ap₂, ◌∙◌}
use Rattle.std.proofs.lemmas.Result.{IfOk-weaker}
use Rattle.clap.specs.Simple.{with_rule}
use Rattle.m2v_tool.proofs.meant.with_needed.Goals as goal

pub returns : goal.returns
returns c =
    let with1 = c.in_ok-command.ensures ∙ ap₂ with_rule c.simple-command.ensures c.required_option.ensures.rule in
    let with2 = c.in_ok-command-2.ensures ∙ ap₂ with_rule with1 c.required_option-2.ensures.rule in
    let with3 = c.in_ok-command-3.ensures ∙ ap₂ with_rule with2 c.required_option-3.ensures.rule in
    let with4 = c.in_ok-command-4.ensures ∙ ap₂ with_rule with3 c.required_option-4.ensures.rule in
    IfOk-weaker c.with-5.result _ _ (λ m h. h ∙ ap₂ with_rule with4 c.required_option-5.ensures.rule) c.with-5.ensures
