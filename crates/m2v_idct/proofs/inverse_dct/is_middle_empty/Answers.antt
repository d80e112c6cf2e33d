use Rattle.std.proofs.lemmas.Bool.{eqb-true}
use Rattle.m2v_idct.proofs.InPlace.{middle_rows}
use Rattle.m2v_idct.proofs.inverse_dct.is_middle_empty.Goals as goal

pub returns : goal.returns
returns c none y low high = middle_rows c.args.rows (eqb-true _ 0 none) y low high
