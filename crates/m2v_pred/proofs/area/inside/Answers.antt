use Rattle.m2v_pred.proofs.Tested.{inside_is}
use Rattle.m2v_pred.proofs.area.inside.Goals as goal

pub returns-then-are_near-clause-value : goal.returns-then-are_near-clause-value
returns-then-are_near-clause-value c = (
  λ yes. inside_is c.args.mode.now c.args.at c.args.dims (c.are_near.ensures.near yes),
  λ is. c.if-are_near.true,
)
