use Rattle.std.proofs.Common.{◌∙◌, arith}
use mir.Syntax.{w32}
use Rattle.m2v_idct.specs.ForwardLanes.{high_of, low_of}
use Rattle.m2v_idct.proofs.AllLanes.{fits_word, told_within}
use Rattle.m2v_idct.proofs.ForwardRows.{part_small, part_told}
use Rattle.m2v_idct.proofs.ForwardSteps.{high_small, low_small}
use Rattle.m2v_idct.proofs.forward_rows.transform_line.Goals as goal

pub put_line-requires-clause-within : goal.put_line-requires-clause-within
put_line-requires-clause-within c =
    part_small 1100 high_of _ c.split-parts.result.high (omega arith) high_small (told_within w32 2147483647 fits_word 67200000 c.line_sums.result (omega arith) c.line_sums.ensures.within) c.split-parts.ensures.high

pub put_line-requires-2-clause-within : goal.put_line-requires-2-clause-within
put_line-requires-2-clause-within c =
    part_small 8191 low_of _ c.split-parts.result.low (omega arith) low_small (told_within w32 2147483647 fits_word 67200000 c.line_sums.result (omega arith) c.line_sums.ensures.within) c.split-parts.ensures.low

pub returns-clause-high : goal.returns-clause-high
returns-clause-high c u lu =
    c.put_line.ensures.row u lu
    ∙ part_told 1100 high_of high_small c.args.f.now c.args.y c.row_at.result c.line_sums.result c.split-parts.result.high (omega arith) c.row_at.ensures c.line_sums.ensures.value c.line_sums.ensures.within c.split-parts.ensures.high u lu

pub returns-clause-low : goal.returns-clause-low
returns-clause-low c u lu =
    c.put_line-2.ensures.row u lu
    ∙ part_told 8191 low_of low_small c.args.f.now c.args.y c.row_at.result c.line_sums.result c.split-parts.result.low (omega arith) c.row_at.ensures c.line_sums.ensures.value c.line_sums.ensures.within c.split-parts.ensures.low u lu
