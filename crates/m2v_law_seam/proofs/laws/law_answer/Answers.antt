use Rattle.m2v_law_seam.proofs.Numbers.{spans_answer, steps_answer}
use Rattle.m2v_law_seam.proofs.laws.law_answer.Goals as goal

pub returns : goal.returns
returns c = λ text. (spans_answer text, steps_answer text)
