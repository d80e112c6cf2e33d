use Rattle.m2v_dec_batch.proofs.PaintedRows.{sets_rows}
use Rattle.m2v_dec_batch.proofs.laws.law_rows_in_frame.Goals as goal

pub returns : goal.returns
returns c b p x h is = sets_rows b p x h is
