use Rattle.m2v_idct.proofs.InPlace.{all_rows}
use Rattle.m2v_idct.proofs.inverse_dct.inverse_unclipped.Goals as goal

pub inverse_by_rows-requires-clause-rows : goal.inverse_by_rows-requires-clause-rows
inverse_by_rows-requires-clause-rows c = all_rows c.args.block.now
