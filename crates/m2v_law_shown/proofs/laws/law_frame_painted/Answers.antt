use Rattle.m2v_law_shown.proofs.Frames.{frame_rebuilt, fields_rebuilt}
use Rattle.m2v_law_shown.proofs.laws.law_frame_painted.Goals as goal

pub returns : goal.returns
returns c = record { whole = frame_rebuilt; fields = fields_rebuilt }
