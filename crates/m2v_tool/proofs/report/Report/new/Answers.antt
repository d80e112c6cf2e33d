use Rattle.std.proofs.Common.{refl}
use Rattle.m2v_tool.specs.Endings.{line_of}
use Rattle.m2v_tool.proofs.report.Report.new.Goals as goal

pub returns : goal.returns
unfolding line_of
returns c = record { status = refl; line = c.in_ok-line.ensures }
