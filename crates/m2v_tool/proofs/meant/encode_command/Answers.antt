use Rattle.std.proofs.Common.{ap, ◌∙◌, ◌++◌}
use Rattle.std.proofs.lemmas.Result.{IfOk-weaker}
use Rattle.clap.specs.Simple.{App}
use Rattle.m2v_tool.specs.Simple.{with_rules}
use Rattle.m2v_tool.specs.EncodeWords.{numbers, others}
use Rattle.m2v_tool.proofs.meant.encode_command.Goals as goal

pub returns : goal.returns
returns c =
    IfOk-weaker c.with_options.result _ _ (λ m h. h ∙ ap (λ (a : App). with_rules a (numbers ++ others)) c.in_ok-command.ensures) c.with_options.ensures
