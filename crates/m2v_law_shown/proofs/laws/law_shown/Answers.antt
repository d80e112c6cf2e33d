use Rattle.m2v_law_shown.proofs.Streams.{shown_is}
use Rattle.m2v_law_shown.proofs.laws.law_shown.Goals as goal

pub returns : goal.returns
returns c = shown_is
