use Rattle.m2v_dec_rows.proofs.OwnLaws.{row_end}
use Rattle.m2v_dec_rows.proofs.Together.{row_together}
use Rattle.m2v_dec_rows.proofs.laws.law_row_in_frame.Goals as goal

pub returns : goal.returns
returns c s refs row us is lt = record {
  set = λ xs old frame long same whole size read. row_together s refs row us xs old frame (row_end s row is lt) is.columns long same whole size read;
}
