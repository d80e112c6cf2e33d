use Rattle.m2v_macro.proofs.Decisions.{read_back}
use Rattle.m2v_macro.proofs.laws.law_round_trip.Goals as goal

pub returns : goal.returns
returns c = read_back
