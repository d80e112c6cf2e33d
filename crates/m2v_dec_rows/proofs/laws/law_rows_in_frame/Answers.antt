use Rattle.m2v_dec_rows.proofs.RowsSet.{rows_in_frame}
use Rattle.m2v_dec_rows.proofs.laws.law_rows_in_frame.Goals as goal

pub returns : goal.returns
returns c s refs us end is o = rows_in_frame s refs us end is o
