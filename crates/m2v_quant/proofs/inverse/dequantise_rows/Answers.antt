use Rattle.std.proofs.Common.{◌%◌}
use Rattle.m2v_quant.proofs.Reconstruction.{mismatched}
use Rattle.m2v_quant.proofs.inverse.dequantise_rows.Goals as goal

pub returns-clause-value : goal.returns-clause-value
returns-clause-value c = mismatched c.args.levels.now.at c.args.kind.now c.saturate-told.new.out c.turn_last.new.out (c.saturate-told.result.parity % 2) c.saturate-told.array_long
    c.saturate-told.ensures.value c.saturate-told.ensures.parity c.turn_last.ensures.even c.turn_last.ensures.odd
