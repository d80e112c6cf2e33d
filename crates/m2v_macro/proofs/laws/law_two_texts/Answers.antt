use Rattle.m2v_macro.proofs.Decisions.{two_texts}
use Rattle.m2v_macro.proofs.laws.law_two_texts.Goals as goal

pub returns : goal.returns
returns c = two_texts
