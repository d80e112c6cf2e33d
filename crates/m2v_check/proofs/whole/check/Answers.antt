use Rattle.m2v_check.proofs.AnswerLaws.{answered}
use Rattle.m2v_check.proofs.whole.check.Goals as goal

pub returns-clause-answer : goal.returns-clause-answer
returns-clause-answer g c = answered _ _ c.by_pieces.ensures.ok c.by_pieces.ensures.err
