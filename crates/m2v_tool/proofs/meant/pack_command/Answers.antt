use Rattle.std.proofs.Common.{ap₂, ◌∙◌}
use Rattle.std.proofs.lemmas.Result.{IfOk-weaker}
use Rattle.clap.specs.Simple.{with_rule}
use Rattle.m2v_tool.proofs.meant.pack_command.Goals as goal

pub returns : goal.returns
returns c =
    let with1 = c.in_ok-command.ensures ∙ ap₂ with_rule c.simple-command.ensures c.number_word.ensures.rule in
    let with2 = c.in_ok-command-2.ensures ∙ ap₂ with_rule with1 c.number_word-2.ensures.rule in
    let with3 = c.in_ok-command-3.ensures ∙ ap₂ with_rule with2 c.number_word-3.ensures.rule in
    IfOk-weaker c.with-4.result _ _ (λ m h. h ∙ ap₂ with_rule with3 c.flag_option.ensures.rule) c.with-4.ensures
