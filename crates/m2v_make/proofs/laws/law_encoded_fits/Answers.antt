use Rattle.m2v_make.proofs.StreamLimits.{fits}
use Rattle.m2v_make.proofs.laws.law_encoded_fits.Goals as goal

pub returns : goal.returns
returns c = fits
