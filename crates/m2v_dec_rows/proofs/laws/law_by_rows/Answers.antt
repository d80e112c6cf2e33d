use Rattle.m2v_dec_picture.specs.Conditions.{rows_in}
use Rattle.m2v_dec_rows.proofs.OwnLaws.{row_end}
use Rattle.m2v_dec_rows.proofs.ByRowLaws.{by_rows}
use Rattle.m2v_dec_rows.proofs.laws.law_by_rows.Goals as goal

pub returns : goal.returns
returns c s us end is o = by_rows s (rows_in s) us end (λ r lt. row_end s r is lt) o
