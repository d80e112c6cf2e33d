use Rattle.m2v_tool.proofs.RunLaws.{kept_by}
use Rattle.m2v_tool.proofs.top.run.Goals as goal

pub returns-clause-kept : goal.returns-clause-kept
returns-clause-kept g c = kept_by _ _ c.carried_out-outcome.ensures.comes c.reported.ensures.told
