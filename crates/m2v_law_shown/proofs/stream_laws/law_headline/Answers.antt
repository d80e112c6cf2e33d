use Rattle.m2v_law_shown.proofs.Headline.{headline}
use Rattle.m2v_law_shown.proofs.stream_laws.law_headline.Goals as goal

pub returns : goal.returns
returns c = headline
