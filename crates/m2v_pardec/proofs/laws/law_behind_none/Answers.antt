use Rattle.m2v_pardec.proofs.NextFrames.{tracks_first}
use Rattle.m2v_pardec.proofs.laws.law_behind_none.Goals as goal

pub returns : goal.returns
returns c b store older newer waiting = tracks_first b store older newer waiting
