use Rattle.m2v_law_seam.proofs.Frames.{frames_told}
use Rattle.m2v_law_seam.proofs.laws.law_frames_told.Goals as goal

pub returns : goal.returns
returns c = frames_told
