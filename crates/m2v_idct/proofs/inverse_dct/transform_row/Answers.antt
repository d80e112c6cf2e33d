use Rattle.std.proofs.Common.{◌∙◌, ap, get_or, pos}
use Rattle.m2v_idct.specs.Block.{at}
use Rattle.m2v_idct.specs.Inverse.{after_rows}
use Rattle.m2v_idct.specs.Ranges.{Within}
use Rattle.m2v_idct.proofs.Rows.{row_listed}
use Rattle.m2v_idct.proofs.InPlace.{all_listed}
use Rattle.m2v_idct.proofs.inverse_dct.transform_row.Goals as goal

pub full_row-requires : goal.full_row-requires
full_row-requires c = all_listed (Within 2048) (at c.args.block.now c.args.y) c.row_at-coefficients.result c.row_at-coefficients.ensures c.requires.within

pub returns-clause-row : goal.returns-clause-row
unfolding after_rows
returns-clause-row c k lk =
    c.put_row.ensures.row k lk
    ∙ ap (λ zs. get_or zs k (pos 0)) (c.full_row.ensures ∙ row_listed (at c.args.block.now c.args.y) c.row_at-coefficients.result c.row_at-coefficients.ensures)
