use Rattle.std.proofs.Common.{arith}
use Rattle.m2v_choose.proofs.IntraParts.{there_within, there_dc, there_predicted, there_counted, text_least}
use Rattle.m2v_choose.proofs.intra.counted.Goals as goal

pub intra_bits-requires-clause-levels : goal.intra_bits-requires-clause-levels
intra_bits-requires-clause-levels c = there_within c.args.task.now c.args._syntax.now c.args._kinds.now c.requires.task c.requires.can c.args.levels.now c.args.block c.requires.block c.requires.levels

pub intra_bits-requires-clause-dc : goal.intra_bits-requires-clause-dc
intra_bits-requires-clause-dc c = there_dc c.args.task.now c.args._syntax.now c.args._kinds.now c.requires.task c.requires.can c.args.levels.now c.args.block c.requires.block c.requires.levels

pub intra_bits-requires-clause-predictor : goal.intra_bits-requires-clause-predictor
intra_bits-requires-clause-predictor c =
    there_predicted c.args.task.now c.args._syntax.now c.args._kinds.now c.requires.task c.requires.can c.args.levels.now c.args.block c.requires.block c.requires.levels
    c.predictor-dc.result (record { sfits = c.predictor-dc.type_inv }) c.predictor-dc.ensures

pub returns-clause-value : goal.returns-clause-value
returns-clause-value c =
    there_counted c.args.task.now c.args._syntax.now c.args._kinds.now c.requires.task c.requires.can c.args.levels.now c.args.block c.requires.block c.requires.levels
    c.predictor-dc.result (record { sfits = c.predictor-dc.type_inv }) c.predictor-dc.ensures c.intra_bits.result c.intra_bits.ensures.value

pub returns-clause-least : goal.returns-clause-least
returns-clause-least c =
    let counted =
    there_counted c.args.task.now c.args._syntax.now c.args._kinds.now c.requires.task c.requires.can c.args.levels.now c.args.block c.requires.block c.requires.levels
    c.predictor-dc.result (record { sfits = c.predictor-dc.type_inv }) c.predictor-dc.ensures c.intra_bits.result c.intra_bits.ensures.value in
    omega (arith, counted, text_least c.args.task.now c.args._syntax.now c.args._kinds.now c.requires.task c.requires.can c.args.block c.requires.block)
