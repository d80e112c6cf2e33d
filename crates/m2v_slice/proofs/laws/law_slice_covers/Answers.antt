use Rattle.m2v_slice.proofs.Fits.{last_written}
use Rattle.m2v_slice.proofs.laws.law_slice_covers.Goals as goal

pub returns : goal.returns
returns c = λ t slice row n last. last_written t slice row n last
