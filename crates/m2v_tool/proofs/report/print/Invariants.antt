use Rattle.std.proofs.Common.{◌≡◌, ◌++◌, drop}
use Rattle.m2v_tool.proofs.LineLaws.{line_from}
use Rattle.m2v_tool.proofs.report.print.Given as goal

abbrev pub invariant-loop-i : goal.invariant-loop-i
invariant-loop-i l = l.line.items ++ line_from (λ f. f.0.now) (λ f. f.1) (drop l.i l.figures) ≡ line_from (λ f. f.0.now) (λ f. f.1) l.figures
