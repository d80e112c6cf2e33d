use Rattle.m2v_law_seam.proofs.There.{spans_keep, steps_keep}
use Rattle.m2v_law_seam.proofs.InTurn.{all_there}
use Rattle.m2v_law_seam.proofs.laws.law_all_there.Goals as goal

pub returns : goal.returns
returns c = λ text. (all_there _ spans_keep text, all_there _ steps_keep text)
