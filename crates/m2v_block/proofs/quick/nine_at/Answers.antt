use Rattle.m2v_block.proofs.Looks.{nine_ahead}
use Rattle.m2v_block.proofs.quick.nine_at.Goals as goal

pub returns-clause-value : goal.returns-clause-value
returns-clause-value c = λ rest l. nine_ahead c.args.bits c.args.used rest l c.requires.used
