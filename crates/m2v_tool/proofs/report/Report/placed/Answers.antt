use Rattle.m2v_tool.proofs.report.Report.placed.Goals as goal

pub returns : goal.returns
returns c = rw (c.as_str.ensures.value, c.in_ok-push_str-2.ensures.bytes, c.in_ok-push_str.ensures.bytes, c.in_ok-text.ensures.ok, c.from.ensures) at c.new.ensures
