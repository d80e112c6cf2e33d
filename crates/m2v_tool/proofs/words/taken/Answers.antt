use Rattle.std.proofs.Common.{Some, ap}
use Rattle.clap.proofs.WalkLemmas.{both}
use Rattle.m2v_tool.specs.Simple.{taken}
use Rattle.m2v_tool.proofs.words.taken.Goals as goal

pub returns-in-Ok : goal.returns-in-Ok
unfolding taken
returns-in-Ok c = rw (c.in-Ok.ensures.kinds c.requires) (ap Some ((c.in-Ok.ensures.matches (both _ _ c.requires).0).0))
