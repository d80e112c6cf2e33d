use Rattle.std.proofs.Common.{refl, get_or, pos}
use Rattle.std.proofs.lemmas.Int.{to_z-of_z}
use Rattle.m2v_block.proofs.Ranges.{dc_wider}
use Rattle.m2v_block.proofs.count.block_bits.Goals as goal

pub intra_bits-requires-clause-dc : goal.intra_bits-requires-clause-dc
intra_bits-requires-clause-dc c = dc_wider c.args.kind.now.precision (get_or c.args.levels.now.at 0 (pos 0)) c.requires.kind.precision (c.requires.levels.dc c.if-kind.true)

pub intra_bits-requires-clause-predictor : goal.intra_bits-requires-clause-predictor
intra_bits-requires-clause-predictor c =
    let fits = c.ranges.dc_pred in
    simp to_z-of_z (dc_wider c.args.kind.now.precision c.args.dc_pred c.requires.kind.precision (c.requires.predictor c.if-kind.true))

pub returns-then-kind-clause-value : goal.returns-then-kind-clause-value
returns-then-kind-clause-value c =
    let fits = c.ranges.dc_pred in
    simp to_z-of_z at (c.intra_bits.ensures.value c.args.kind.now c.if-kind.true refl)

pub returns-clause-value : goal.returns-clause-value
returns-clause-value c = c.other_bits.ensures.value c.args.kind.now c.if-kind.false c.args.table_one c.args.dc_pred
