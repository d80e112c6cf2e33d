use Rattle.m2v_pardec.proofs.NextFrames.{noted}
use Rattle.m2v_pardec.proofs.laws.law_noted.Goals as goal

pub returns : goal.returns
returns c st now p o told = noted st now p o told
