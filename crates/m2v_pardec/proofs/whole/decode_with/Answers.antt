use Rattle.m2v_decode.proofs.AnswerLaws.{answered}
use Rattle.m2v_pardec.proofs.whole.decode_with.Goals as goal

pub returns-clause-answer : goal.returns-clause-answer
returns-clause-answer g c = answered _ _ _ c.by_batches.ensures.ok c.by_batches.ensures.err
