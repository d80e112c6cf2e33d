use Rattle.m2v_vector.proofs.Wrapping.{round_trip}
use Rattle.m2v_vector.proofs.laws.law_round_trip.Goals as goal

pub returns : goal.returns
returns c = round_trip
