use Rattle.m2v_decode.proofs.AnswerLaws.{answered}
use Rattle.m2v_decode.proofs.whole.decode.Goals as goal

pub returns-clause-answer : goal.returns-clause-answer
returns-clause-answer g c = answered _ _ _ c.by_pieces.ensures.ok c.by_pieces.ensures.err
