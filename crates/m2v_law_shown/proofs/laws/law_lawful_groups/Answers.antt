use Rattle.m2v_law_shown.proofs.Places.{group_shown}
use Rattle.m2v_law_shown.proofs.LawfulGroups.{group_none}
use Rattle.m2v_law_shown.proofs.LawfulStreams.{stream_none}
use Rattle.m2v_law_shown.proofs.LawfulNumbers.{told_none}
use Rattle.m2v_law_shown.proofs.laws.law_lawful_groups.Goals as goal

pub returns : goal.returns
returns g c = record { places = group_shown; group = group_none; stream = stream_none; told = told_none }
