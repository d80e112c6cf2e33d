use Rattle.m2v_quant.proofs.Placed.{zigzag_position, zigzag_position_below, alternate_position, alternate_position_below}
use Rattle.m2v_quant.proofs.positions.position.Goals as goal

pub returns-then-alternate-clause-value : goal.returns-then-alternate-clause-value
returns-then-alternate-clause-value c = alternate_position c.args.alternate c.args.place c.entry.result c.if-alternate.true c.requires c.entry.ensures

pub returns-then-alternate-clause-below : goal.returns-then-alternate-clause-below
returns-then-alternate-clause-below c = alternate_position_below c.args.place c.entry.result c.requires c.entry.ensures

pub returns-else-alternate-clause-value : goal.returns-else-alternate-clause-value
returns-else-alternate-clause-value c = zigzag_position c.args.alternate c.args.place c.entry-else-alternate.result c.if-alternate.false c.requires c.entry-else-alternate.ensures

pub returns-else-alternate-clause-below : goal.returns-else-alternate-clause-below
returns-else-alternate-clause-below c = zigzag_position_below c.args.place c.entry-else-alternate.result c.requires c.entry-else-alternate.ensures
