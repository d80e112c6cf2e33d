use Rattle.std.proofs.Common.{List, Bool, get_or, pos, subst}
use Rattle.m2v_bits.specs.Outputs.{Gains}
use Rattle.m2v_bits.proofs.Outputs.{gains_on}
use Rattle.m2v_block.proofs.Ranges.{difference_passed, difference_is}
use Rattle.m2v_block.proofs.Written.{intra_text}
use Rattle.m2v_block.proofs.write.put_block.Goals as goal

pub put_dc-requires-clause-range : goal.put_dc-requires-clause-range
put_dc-requires-clause-range g c = difference_passed c.args.kind.now.precision (get_or c.args.levels.now.at 0 (pos 0)) c.args.dc_pred c.requires.kind.precision (c.requires.levels.dc c.if-kind.true) (c.requires.predictor c.if-kind.true)

pub returns-then-kind : goal.returns-then-kind
returns-then-kind g c =
    let dc = get_or c.args.levels.now.at 0 (pos 0) in
    let same = difference_is c.args.kind.now.precision dc c.args.dc_pred c.requires.kind.precision (c.requires.levels.dc c.if-kind.true) (c.requires.predictor c.if-kind.true) in
    subst (λ (text : List Bool). Gains g.O.BitOutput.took g.O.BitOutput.space c.args.out.now text c.put_pairs.new.out)
    (intra_text c.args.kind.now c.args.table_one _ c.args.dc_pred c.args.levels.now.at c.if-kind.true same)
    (gains_on c.put_dc.ensures c.put_pairs.ensures)
