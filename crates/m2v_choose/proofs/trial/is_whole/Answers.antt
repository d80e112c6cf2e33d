use Rattle.std.proofs.Common.{rules}
use Rattle.m2v_choose.proofs.trial.is_whole.Goals as goal

pub returns : goal.returns
returns c = search rules
