use Rattle.m2v_model.proofs.TurnLaws.{pictures_in_turn}
use Rattle.m2v_model.proofs.laws.law_pictures_in_turn.Goals as goal

pub returns : goal.returns
returns c = pictures_in_turn
