use Rattle.m2v_slice.proofs.Fits.{chosen}
use Rattle.m2v_slice.proofs.laws.law_slice_chosen.Goals as goal

pub returns : goal.returns
returns c = λ t slice row n small. chosen t slice row n small
