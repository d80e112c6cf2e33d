use Rattle.m2v_slice.proofs.Fits.{slice_fits}
use Rattle.m2v_slice.proofs.laws.law_slice_fits.Goals as goal

pub returns : goal.returns
returns c = λ t slice. slice_fits t slice
