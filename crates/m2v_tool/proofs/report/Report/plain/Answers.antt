use Rattle.std.proofs.Common.{◌++◌, List, ℕ, refl, ap, ◌∙◌}
use Rattle.std.specs.Prelude.{codes}
use Rattle.m2v_tool.specs.Endings.{line_of, line_text}
use Rattle.m2v_tool.proofs.report.Report.plain.Goals as goal

pub returns : goal.returns
unfolding line_of line_text
returns c = record {
  status = refl;
  line = c.in_ok-push.ensures.items ∙ ap (λ (b : List ℕ). b ++ codes "\n") (c.in_ok-line.ensures.items ∙ c.as_bytes.ensures.value);
}
