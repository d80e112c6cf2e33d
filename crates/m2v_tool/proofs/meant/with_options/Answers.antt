use Rattle.std.proofs.Common.{ap₂, ◌∙◌}
use Rattle.std.proofs.lemmas.Result.{IfOk-weaker}
use Rattle.clap.specs.Simple.{with_rule}
use Rattle.m2v_tool.proofs.meant.with_options.Goals as goal

pub returns : goal.returns
returns c =
    let with1 = c.in_ok-command-2.ensures ∙ ap₂ with_rule c.in_ok-command.ensures c.text_option.ensures.rule in
    let with2 = c.in_ok-command-3.ensures ∙ ap₂ with_rule with1 c.text_option-2.ensures.rule in
    let with3 = c.in_ok-command-4.ensures ∙ ap₂ with_rule with2 c.text_option-3.ensures.rule in
    let with4 = c.in_ok-command-5.ensures ∙ ap₂ with_rule with3 c.flag_option.ensures.rule in
    let with5 = c.in_ok-command-6.ensures ∙ ap₂ with_rule with4 c.flag_option-2.ensures.rule in
    IfOk-weaker c.with-6.result _ _ (λ m h. h ∙ ap₂ with_rule with5 c.text_option-4.ensures.rule) c.with-6.ensures
