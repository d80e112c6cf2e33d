use Rattle.m2v_pardec.proofs.RebuiltRows.{rows_rebuilt, none_faulty, small_row}
use Rattle.m2v_pardec.proofs.laws.law_rows_behind.Goals as goal

pub returns-clause-rows : goal.returns-clause-rows
returns-clause-rows c b p x store samples h is tracks each r lt = rows_rebuilt b p x store samples h is tracks each r lt

pub returns-clause-whole : goal.returns-clause-whole
returns-clause-whole c b p x samples h is each some = none_faulty b p 0 x (samples 0) h is some (each 0 (small_row b p 0 x is some))
