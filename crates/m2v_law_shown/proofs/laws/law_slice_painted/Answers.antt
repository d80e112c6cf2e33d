use Rattle.m2v_law_shown.proofs.Painted.{row_painted}
use Rattle.m2v_law_shown.proofs.laws.law_slice_painted.Goals as goal

pub returns : goal.returns
returns c = λ t references refs at now slice views has painted. row_painted t references refs at slice views has now painted
