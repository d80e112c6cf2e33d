use Rattle.m2v_block.proofs.Ranges.{dc_read}
use Rattle.m2v_block.proofs.read.first.Goals as goal

pub returns-then-kind-clause-range : goal.returns-then-kind-clause-range
returns-then-kind-clause-range c = dc_read c.args.kind.now.precision c.dc.result c.requires.kind.precision c.dc.ensures.range
