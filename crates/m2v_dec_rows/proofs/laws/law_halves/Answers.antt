use Rattle.m2v_dec_rows.proofs.WholePieces.{halves}
use Rattle.m2v_dec_rows.proofs.laws.law_halves.Goals as goal

pub returns : goal.returns
returns c b p f all between one = halves b p f all between one
