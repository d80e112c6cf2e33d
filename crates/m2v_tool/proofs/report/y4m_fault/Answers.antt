use Rattle.m2v_tool.specs.Packing.{y4m_fault}
use Rattle.m2v_tool.proofs.report.y4m_fault.Goals as goal

pub returns : goal.returns
unfolding y4m_fault
returns c = rw (c.kind_name-name.ensures) at c.placed.ensures
