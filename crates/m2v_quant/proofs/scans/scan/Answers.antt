use Rattle.m2v_quant.proofs.Tables.{zigzag_place, zigzag_below, alternate_place, alternate_below}
use Rattle.m2v_quant.proofs.scans.scan.Goals as goal

pub returns-then-alternate-clause-value : goal.returns-then-alternate-clause-value
returns-then-alternate-clause-value c = alternate_place c.args.alternate c.args.i c.entry.result c.if-alternate.true c.requires c.entry.ensures

pub returns-then-alternate-clause-below : goal.returns-then-alternate-clause-below
returns-then-alternate-clause-below c = alternate_below c.args.i c.entry.result c.requires c.entry.ensures

pub returns-else-alternate-clause-value : goal.returns-else-alternate-clause-value
returns-else-alternate-clause-value c = zigzag_place c.args.alternate c.args.i c.entry-else-alternate.result c.if-alternate.false c.requires c.entry-else-alternate.ensures

pub returns-else-alternate-clause-below : goal.returns-else-alternate-clause-below
returns-else-alternate-clause-below c = zigzag_below c.args.i c.entry-else-alternate.result c.requires c.entry-else-alternate.ensures
