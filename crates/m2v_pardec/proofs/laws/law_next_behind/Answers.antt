use Rattle.m2v_pardec.proofs.NextFrames.{tracks_next}
use Rattle.m2v_pardec.proofs.laws.law_next_behind.Goals as goal

pub returns : goal.returns
returns c b p x store samples h is note tracks each = tracks_next b p x store samples h is note tracks each
