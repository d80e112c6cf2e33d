use Rattle.std.proofs.Common.{sym, ◌∙◌}
use Rattle.m2v_macro.proofs.Ready.{used_forward, used_backward}
use Rattle.m2v_macro.proofs.read.directions.Goals as goal

pub direction-requires-clause-scales : goal.direction-requires-clause-scales
direction-requires-clause-scales c = λ told. c.requires.context.forward (used_forward c.args.context.now c.args.kind c.requires.kind (sym c.has_forward-told.ensures ∙ told))

pub direction-requires-clause-predictors : goal.direction-requires-clause-predictors
direction-requires-clause-predictors c = λ told. c.requires.forward (used_forward c.args.context.now c.args.kind c.requires.kind (sym c.has_forward-told.ensures ∙ told))

pub direction-requires-2-clause-scales : goal.direction-requires-2-clause-scales
direction-requires-2-clause-scales c = λ told. c.requires.context.backward (used_backward c.args.context.now c.args.kind c.requires.context.kind.0 c.requires.context.kind.1 c.requires.kind told)

pub direction-requires-2-clause-predictors : goal.direction-requires-2-clause-predictors
direction-requires-2-clause-predictors c = λ told. c.requires.backward (used_backward c.args.context.now c.args.kind c.requires.context.kind.0 c.requires.context.kind.1 c.requires.kind told)
