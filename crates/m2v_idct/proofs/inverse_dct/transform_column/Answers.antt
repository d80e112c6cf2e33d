use Rattle.std.proofs.Common.{◌∙◌, ap, get_or, pos}
use Rattle.m2v_idct.specs.Block.{at}
use Rattle.m2v_idct.specs.Ranges.{Within}
use Rattle.m2v_idct.proofs.Rows.{column_listed}
use Rattle.m2v_idct.proofs.InPlace.{all_listed}
use Rattle.m2v_idct.proofs.inverse_dct.transform_column.Goals as goal

pub column_results-requires : goal.column_results-requires
column_results-requires c = all_listed (Within 160000) (λ j. at c.args.block.now j c.args.x) c.column_at-left.result c.column_at-left.ensures c.requires.within

pub returns-clause-column : goal.returns-clause-column
returns-clause-column c k lk =
    c.put_column.ensures.column k lk
    ∙ ap (λ zs. get_or zs k (pos 0)) (c.column_results.ensures ∙ column_listed (λ j. at c.args.block.now j c.args.x) c.column_at-left.result c.column_at-left.ensures)
