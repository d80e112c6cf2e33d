use Rattle.m2v_pardec.proofs.PutSteps.{rows_taken, took_in}
use Rattle.m2v_pardec.proofs.put.take_in.Goals as goal

pub rebuilt-requires-clause-told : goal.rebuilt-requires-clause-told
rebuilt-requires-clause-told c = c.requires.can.told.told

pub rebuilt-requires-clause-rows : goal.rebuilt-requires-clause-rows
rebuilt-requires-clause-rows c = rows_taken _ _ _ _ c.requires.can c.requires.rows

pub returns-clause-rows : goal.returns-clause-rows
returns-clause-rows c = took_in _ _ _ _ _ c.requires.can c.requires.rows c.in_ok-rebuilt.ensures.state c.in_ok-rebuilt.ensures.frames
