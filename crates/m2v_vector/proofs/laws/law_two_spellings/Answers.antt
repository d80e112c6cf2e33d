use Rattle.m2v_vector.proofs.Spellings.{two_spellings}
use Rattle.m2v_vector.proofs.laws.law_two_spellings.Goals as goal

pub returns : goal.returns
returns c = λ f predictor code other residual more range p q e. two_spellings f predictor code other residual more p q e
